-- What a line contributes rises with what is known of the registers before it.
use Rattle.std.specs.Prelude.{◌≡◌, ℕ, ◌+◌, Bool, true, false, cond, ◌⊎◌, ℤ, ◌+ℤ◌, ◌-ℤ◌, ◌==◌, refl}
use Rattle.std.proofs.Common.{sym, ◌∙◌, ap, inl, inr, arith}
use Rattle.std.proofs.lemmas.Bool.{false≢true}
use Rattle.lattice.specs.declared.constant.Constant.{Constant}
use Rattle.lattice.specs.declared.constant.Constant.TheVariants.{Never, Number, Many}
use Rattle.lattice.specs.Kinds.{AtOrBelow}
use Rattle.lattice.specs.Constants.{same_number, join_constants, constants}
use Rattle.lattice.specs.Order.{below_trans}
use Rattle.lattice.specs.ConstantLaws.{constants_laws, join_idem, cases_number}
use Rattle.drive.specs.declared.line.Line.{Line}
use Rattle.drive.specs.declared.line.Line.TheVariants.{Set, Copy, Add, Sub, Neg, In, Out, Jmp, Jz, Jneg, Halt}
use Rattle.analyses.specs.Transfer.{unless_never, combine, negate, update, is_zero, is_negative, permits, contribution}

abbrev Low : Constant → Constant → Type 0
Low v w = AtOrBelow constants v w

top : (v : Constant) → Low v Many
top Never = refl
top (Number a) = refl
top Many = refl

-- v is at or below w in three ways.
low_cases : (v w : Constant) → Low v w → (v ≡ Never) ⊎ ((v ≡ w) ⊎ (w ≡ Many))
low_cases Never w e = inl refl
low_cases (Number a) Never e = let z : ◌≡◌ {A = ℕ} 0 1 = cc in absurd (omega arith)
low_cases (Number a) (Number b) e = go (cases_number a b)
  where
    go : (a ≡ b) ⊎ (same_number a b ≡ false) → (Number a ≡ Never) ⊎ ((Number a ≡ Number b) ⊎ (Number b ≡ Many))
    go (inl q) = inr (inl (ap Number q))
    go (inr q) = inr (inr (sym e ∙ ap (λ t. cond t (Number a) Many) q))
low_cases (Number a) Many e = inr (inr refl)
low_cases Many w e = inr (inr (sym e))

-- A function is monotone that keeps `never` and is highest at `many`.
mono_by : (f : Constant → Constant) → f Never ≡ Never → ((v : Constant) → Low (f v) (f Many)) → (u v : Constant) → Low u v → Low (f u) (f v)
mono_by f strict high u v l = go (low_cases u v l)
  where
    go : (u ≡ Never) ⊎ ((u ≡ v) ⊎ (v ≡ Many)) → Low (f u) (f v)
    go (inl e) = ap (λ x. join_constants x (f v)) (ap f e ∙ strict)
    go (inr (inl e)) = ap (λ x. join_constants (f x) (f v)) e ∙ join_idem (f v)
    go (inr (inr e)) = rw e (high u)

unless_never_mono : (w u v : Constant) → Low u v → Low (unless_never u w) (unless_never v w)
unless_never_mono w = mono_by (λ x. unless_never x w) refl high
  where
    high : (v : Constant) → Low (unless_never v w) w
    high Never = refl
    high (Number a) = join_idem w
    high Many = join_idem w

negate_mono : (u v : Constant) → Low u v → Low (negate u) (negate v)
negate_mono = mono_by negate refl (λ v. top (negate v))

module _ (op : ℤ → ℤ → ℤ) where
  combine_left : (w u v : Constant) → Low u v → Low (combine op u w) (combine op v w)
  combine_left w = mono_by (λ x. combine op x w) refl (λ v. high v w)
    where
      high : (v w : Constant) → Low (combine op v w) (combine op Many w)
      high Never w = refl
      high (Number a) Never = refl
      high (Number a) (Number b) = refl
      high (Number a) Many = refl
      high Many Never = refl
      high Many (Number b) = refl
      high Many Many = refl

  combine_right : (w u v : Constant) → Low u v → Low (combine op w u) (combine op w v)
  combine_right w = mono_by (combine op w) (strict w) (high w)
    where
      strict : (w : Constant) → combine op w Never ≡ Never
      strict Never = refl
      strict (Number a) = refl
      strict Many = refl

      high : (w v : Constant) → Low (combine op w v) (combine op w Many)
      high Never v = refl
      high (Number a) v = top (combine op (Number a) v)
      high Many v = top (combine op Many v)

  combine_mono : (a b c d : Constant) → Low a c → Low b d → Low (combine op a b) (combine op c d)
  combine_mono a b c d p q = below_trans constants_laws (combine op a b) (combine op c b) (combine op c d) (combine_left b a c p) (combine_right c b d q)

module _ (test : ℤ → Bool) (b next p : ℕ) where
  permits_mono : (u v : Constant) → Low u v → permits test b next p u ≡ true → permits test b next p v ≡ true
  permits_mono u v l t = go (low_cases u v l)
    where
      go : (u ≡ Never) ⊎ ((u ≡ v) ⊎ (v ≡ Many)) → permits test b next p v ≡ true
      go (inl e) = absurd (false≢true (sym (ap (permits test b next p) e) ∙ t))
      go (inr (inl e)) = sym (ap (permits test b next p) e) ∙ t
      go (inr (inr e)) = ap (permits test b next p) e

  branch_mono : (u v x y : Constant) → Low u v → Low x y → Low (cond (permits test b next p u) x Never) (cond (permits test b next p v) y Never)
  branch_mono u v x y l m = go (permits test b next p u) (permits test b next p v) (permits_mono u v l)
    where
      go : (s t : Bool) → (s ≡ true → t ≡ true) → Low (cond s x Never) (cond t y Never)
      go true true h = m
      go true false h = absurd (false≢true (h refl))
      go false t h = refl

module _ (V U : ℕ → Constant) (h : (s : ℕ) → Low (V s) (U s)) where
  update_mono : (a : ℕ) (c d : Constant) → Low c d → (r : ℕ) → Low (update V a c r) (update U a d r)
  update_mono a c d l r = go (a == r)
    where
      go : (t : Bool) → Low (cond t c (V r)) (cond t d (U r))
      go true = l
      go false = h r

  pub contribution_mono : (line : Line) (q p r : ℕ) → Low (contribution line q p V r) (contribution line q p U r)
  contribution_mono (Set a b) q p r = update_mono a _ _ (unless_never_mono (Number b) (V a) (U a) (h a)) r
  contribution_mono (Copy a b) q p r = update_mono a _ _ (h b) r
  contribution_mono (Add a b) q p r = update_mono a _ _ (combine_mono ◌+ℤ◌ (V a) (V b) (U a) (U b) (h a) (h b)) r
  contribution_mono (Sub a b) q p r = update_mono a _ _ (combine_mono ◌-ℤ◌ (V a) (V b) (U a) (U b) (h a) (h b)) r
  contribution_mono (Neg a) q p r = update_mono a _ _ (negate_mono (V a) (U a) (h a)) r
  contribution_mono (In a) q p r = update_mono a _ _ (unless_never_mono Many (V a) (U a) (h a)) r
  contribution_mono (Out a) q p r = h r
  contribution_mono (Jmp a) q p r = h r
  contribution_mono (Jz a b) q p r = branch_mono is_zero b (q + 1) p (V a) (U a) (V r) (U r) (h a) (h r)
  contribution_mono (Jneg a b) q p r = branch_mono is_negative b (q + 1) p (V a) (U a) (V r) (U r) (h a) (h r)
  contribution_mono Halt q p r = h r
