-- How constants are shown to a person, as bytes.
use Rattle.std.specs.Prelude.{ℕ, List, codes}
use Rattle.std.specs.Fmt.{signed_decimal}
use Rattle.lattice.specs.declared.constant.Constant.{Constant}
use Rattle.lattice.specs.declared.constant.Constant.TheVariants.{Never, Number, Many}

abbrev pub shown_constant : Constant → List ℕ
shown_constant Never = codes "never"
shown_constant (Number n) = signed_decimal n
shown_constant Many = codes "many"
