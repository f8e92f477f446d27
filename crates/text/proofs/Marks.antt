-- The first bad name, from name to name.
use Rattle.std.proofs.Common.{◌≡◌, ℕ, ◌+◌, ◌-◌, ◌<◌, ◌≤◌, not, ◌&&◌, List, [], ◌∷◌, length, get_or, drop, Some, None, Option, sym, refl, ap, ◌∙◌, ⊎_elim, arith}
use Rattle.std.specs.Option.{option_map}
use Rattle.std.proofs.lemmas.List.{drop_more, drop_all}
use Rattle.std.proofs.lemmas.Bool.{cond-true, cond-false, cases_lt}
use Rattle.fields.specs.Kinds.{Kind, kind}
use Rattle.fields.specs.Readers.{field_at}
use Rattle.fields.proofs.Parts.{field_some, some_field}
use Rattle.text.specs.declared.names.Had.{Had}
use Rattle.text.specs.Reading.{has, known, bad_name}
use Rattle.text.specs.Names.{Marks, Adds}

-- What a reader's field says of the line.
pub found : (ws : List (List ℕ)) (n : ℕ) (x : Kind) → Some x ≡ option_map kind (field_at ws n) → (n - 1 < length ws) × (x ≡ kind (get_or ws (n - 1) []))
found ws n x e = go (field_at ws n) refl e
  where
    go : (o : Option (List ℕ)) → field_at ws n ≡ o → Some x ≡ option_map kind o → (n - 1 < length ws) × (x ≡ kind (get_or ws (n - 1) []))
    go None f e = let z : ◌≡◌ {A = ℕ} 0 1 = cc in absurd (omega arith)
    go (Some w) f e = let (inside, is) = some_field ws n w (sym f) in let same : x ≡ kind w = cc in (inside, same ∙ ap kind is)

pub missing : (ws : List (List ℕ)) (n : ℕ) → 1 ≤ n → None ≡ option_map kind (field_at ws n) → length ws < n
missing ws n low e = ⊎_elim (λ (h : length ws < n). h) (λ (h : n ≤ length ws). absurd (no h)) (cases_lt (length ws) n)
  where
    no : n ≤ length ws → ⊥
    no h = let f = ap (option_map kind) (field_some ws n low h) in let z : ◌≡◌ {A = ℕ} 0 1 = cc in omega arith

-- The names before name n are good, and marked.
pub record GoodBefore (n : ℕ) (had : Had) (ws : List (List ℕ)) : Type 0 where
  pub names : List (List ℕ)
  pub marks : Marks had names
  pub low : 1 ≤ n
  pub high : n ≤ length ws + 1
  pub so_far : bad_name 0 [] ws ≡ bad_name (n - 1) names (drop (n - 1) ws)

pub at_first : (had : Had) (ws : List (List ℕ)) → Marks had [] → GoodBefore 1 had ws
at_first had ws marks = record { names = []; marks = marks; low = omega arith; high = omega arith; so_far = refl }

-- The first bad name, from name n on; it is m that is known good so far.
module _ (n m : ℕ) (here : n ≡ m) (had : Had) (ws : List (List ℕ)) (before : GoodBefore m had ws) where
  good : GoodBefore n had ws
  good = rw here before

  pub none_bad : None ≡ option_map kind (field_at ws n) → 0 ≡ bad_name 0 [] ws
  unfolding bad_name
  none_bad e = let past = missing ws n good.low e in sym (good.so_far ∙ ap (bad_name (n - 1) good.names) (drop_all (n - 1) ws (omega arith)))

  module _ (x : Kind) (e : Some x ≡ option_map kind (field_at ws n)) where
    abbrev w : List ℕ
    w = get_or ws (n - 1) []

    step : bad_name 0 [] ws ≡ bad_name (n - 1) good.names (w ∷ drop n ws)
    step =
        let low = good.low in
        let same : n - 1 + 1 ≡ n = omega arith in
        good.so_far ∙ ap (bad_name (n - 1) good.names) (drop_more ws (n - 1) [] (found ws n x e).0 ∙ ap (λ k. w ∷ drop k ws) same)

    pub this_bad : ((v : List ℕ) → x ≡ kind v → Adds had v None) → n ≡ bad_name 0 [] ws
    unfolding bad_name
    this_bad bad =
        let low = good.low in
        let same : n ≡ n - 1 + 1 = omega arith in
        same ∙ sym (step ∙ cond-false (known w && not (has good.names w)) _ _ (bad w (found ws n x e).1 good.names good.marks))

    pub next_good : (more : Had) → ((v : List ℕ) → x ≡ kind v → Adds had v (Some more)) → GoodBefore (n + 1) more ws
    unfolding bad_name
    next_good more adds =
        let low = good.low in
        let (inside, is) = found ws n x e in
        let (new, marks) = adds w is good.names good.marks in
        let same : n - 1 + 1 ≡ n + 1 - 1 = omega arith in
        let same' : n ≡ n + 1 - 1 = omega arith in
        record {
          names = w ∷ good.names;
          marks = marks;
          low = omega arith;
          high = omega arith;
          so_far = step ∙ cond-true (known w && not (has good.names w)) _ _ new ∙ (λ j. bad_name (same j) (w ∷ good.names) (drop (same' j) ws));
        }
