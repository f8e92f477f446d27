-- The name of each layer, as bytes.
use Rattle.std.specs.Prelude.{List, ℕ, codes}
use Rattle.refusal.specs.declared.Layer.{Layer}
use Rattle.refusal.specs.declared.Layer.TheVariants.{Input, Program, Notebook, Output}

abbrev pub name : Layer → List ℕ
name Input = codes "input"
name Program = codes "program"
name Notebook = codes "notebook"
name Output = codes "output"
