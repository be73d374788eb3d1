-- A window of a turn of a window of a corner carrier. Assumes nothing.
use Rattle.std.specs.Prelude.{ℕ, List, ℤ}
use Rattle.std.specs.Borrow.{MutBor}
use Rattle.carrier.specs.Meaning.{Site}
use Rattle.corner.specs.declared.corner.Corner.{Corner}
use Rattle.corner.specs.Channels.{channel_count}
use Rattle.corner.specs.Corner.{corner_codes, corner_rest, corner_sites}
use Rattle.layer.specs.declared.turn.Turn.{Turn}
use Rattle.layer.specs.declared.window.Window.{Window}
use Rattle.layer.specs.Turn.{turned_codes, turned_sites}
use Rattle.layer.specs.Window.{windowed}

abbrev Picture : Type 0
Picture = Corner (MutBor (List ℕ)) ℕ

abbrev pub Pile : Type 0
Pile = Window (Turn (Window Picture))

-- its codes
abbrev pub pile_codes : Pile → List ℤ
pile_codes p =
    let lower = p.below.below in
    let c = lower.below in
    windowed p.start p.shown (turned_codes (windowed lower.start lower.shown (corner_codes c.grid.width (channel_count c.grid.channels) c.samples.now)))

-- its sites
abbrev pub pile_sites : Pile → List Site
pile_sites p =
    let lower = p.below.below in
    let c = lower.below in
    windowed p.start p.shown (turned_sites (windowed lower.start lower.shown (corner_sites (corner_rest c.maximum c.grid.width (channel_count c.grid.channels) c.samples.now))))

-- and its picture
abbrev pub pile_picture : Pile → List ℕ
pile_picture p = p.below.below.below.samples.now
