use Rattle.std.proofs.Common.{◌≡◌, ◌||◌, length, ap, ◌∙◌, arith}
use Rattle.memory.specs.Bits.{bit}
use Rattle.memory.specs.Layout.{width}
use Rattle.memory.proofs.Shape.{row_room, inside}
use Rattle.memory.proofs.Stepping.{readers_in}
use Rattle.memory.proofs.entries.Entries.readers.Goals as goal

pub row-requires : goal.row-requires
row-requires g c =
    let e : c.row_words-w.result ≡ width (length c.args.self.now.cells.now) = c.row_words-w.ensures in
    rw e (row_room _ _ _ c.args.x c.args.self.now.room (inside c.args.self.now.cells.now c.args.x c.requires))

pub add-requires : goal.add-requires
add-requires g c = omega (arith, c.row.ensures.size, c.row_words-w.ensures, c.args.self.now.room.0)

pub returns : goal.returns
returns g c z =
    c.add.ensures z ∙ ap (λ t. t || bit c.row.result.now z) (c.new-readers.ensures z) ∙ c.row.ensures.bits z
    ∙ readers_in c.args.self.now.cells.now c.args.self.now.links.now c.args.self.now.clean c.row_words-w.result c.args.x z c.row_words-w.ensures c.requires
