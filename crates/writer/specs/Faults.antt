-- The number and the layer of each refusal of a writing.
use Rattle.std.specs.Prelude.{ℕ}
use Rattle.refusal.specs.declared.Layer.{Layer}
use Rattle.refusal.specs.declared.Layer.TheVariants.{Output}
use Rattle.writer.specs.declared.fault.OutputFault.{OutputFault}
use Rattle.writer.specs.declared.fault.OutputFault.TheVariants.{Short}

abbrev pub number : OutputFault → ℕ
number Short = 13

abbrev pub layer : OutputFault → Layer
layer fault = Output
