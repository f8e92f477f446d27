-- How a program is written, in any order of the columns.
use Rattle.std.specs.Prelude.{ℕ, List, [], ◌∷◌, ◌++◌, codes}
use Rattle.std.specs.List.{flat_map}
use Rattle.drive.specs.declared.line.Line.{Line}
use Rattle.fields.specs.Fields.{spaced}
use Rattle.fields.specs.Kinds.{text}
use Rattle.text.specs.declared.order.Order.{Order}
use Rattle.text.specs.Columns.{arrange}
use Rattle.text.specs.Ops.{word, op_of, a_of, b_of}

-- The names line and a value line, without their byte 10.
abbrev pub names : Order → List ℕ
names o = spaced (arrange o (codes "op") (codes "a") (codes "b"))

abbrev pub value_line : Order → Line → List ℕ
value_line o l = spaced (arrange o (word (op_of l)) (text (a_of l)) (text (b_of l)))

-- The whole table, each line with its byte 10.
abbrev pub value_lines : Order → List Line → List ℕ
value_lines o P = flat_map (λ l. value_line o l ++ 10 ∷ []) P

abbrev pub render : Order → List Line → List ℕ
render o P = names o ++ 10 ∷ value_lines o P
