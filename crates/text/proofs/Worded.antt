-- Fields as words: what is no word is neither a name nor an operation.
use Rattle.std.proofs.Common.{◌≡◌, ℕ, Bool, true, false, List, Some, None, Bor, Option, sym, refl, ap, ◌∙◌, arith}
use Rattle.fields.specs.declared.field.Field.{Field}
use Rattle.fields.specs.declared.field.Field.TheVariants.{Word, Number, Dash}
use Rattle.fields.specs.Kinds.{Kind, Kind.Word, plain, minus, kind, text}
use Rattle.fields.specs.Readers.{said}
use Rattle.fields.proofs.Numbers.{text_kind}
use Rattle.text.specs.declared.op.Op.{Op}
use Rattle.text.specs.declared.op.Op.TheVariants.{SET, COPY, ADD, SUB, NEG, IN, OUT, JMP, JZ, JNEG, HALT}
use Rattle.text.specs.declared.order.Column.{Column}
use Rattle.text.specs.declared.order.Column.TheVariants.{Op as op, A as a, B as b}
use Rattle.text.specs.Ops.{word, ops, op_named}
use Rattle.text.specs.Reading.{known}
use Rattle.text.proofs.Named.{name, known_is}
use Rattle.text.proofs.Rows.{find_is}

-- A word is its own bytes.
pub word_is : (v : Bor (List ℕ)) (field : Field) (w : List ℕ) → field ≡ Word v → said field ≡ kind w → v.now ≡ w
word_is v field w is e = ap text (sym (ap said is) ∙ e) ∙ text_kind w

abbrev pub NoWord : Field → Type 0
NoWord field = (v : Bor (List ℕ)) → field ≡ Word v → ⊥

no_word : (field : Field) (v : List ℕ) → NoWord field → said field ≡ Kind.Word v → ⊥
no_word (Word x) v h e = h x refl
no_word (Number z) v h e = let z : ◌≡◌ {A = ℕ} 0 1 = cc in omega arith
no_word Dash v h e = let z : ◌≡◌ {A = ℕ} 0 1 = cc in omega arith

kind_name : (c : Column) → kind (name c) ≡ Kind.Word (name c)
unfolding kind minus plain
kind_name op = refl
kind_name a = refl
kind_name b = refl

kind_op : (p : Op) → kind (word p) ≡ Kind.Word (word p)
unfolding kind minus plain
kind_op SET = refl
kind_op COPY = refl
kind_op ADD = refl
kind_op SUB = refl
kind_op NEG = refl
kind_op IN = refl
kind_op OUT = refl
kind_op JMP = refl
kind_op JZ = refl
kind_op JNEG = refl
kind_op HALT = refl

module _ (field : Field) (w : List ℕ) (h : NoWord field) (e : said field ≡ kind w) where
  pub no_name : known w ≡ false
  no_name = go (known w) refl
    where
      go : (t : Bool) → known w ≡ t → t ≡ false
      go false f = refl
      go true f = let (c, is) = known_is w f in absurd (no_word field (name c) h (e ∙ ap kind is ∙ kind_name c))

  pub no_op : op_named w ≡ None
  no_op = go (op_named w) refl
    where
      go : (o : Option Op) → op_named w ≡ o → o ≡ None
      go None f = refl
      go (Some p) f = absurd (no_word field (word p) h (e ∙ ap kind (sym (find_is word w ops p f)) ∙ kind_op p))
