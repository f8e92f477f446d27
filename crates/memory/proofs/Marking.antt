-- The entries that go, from those that are marked.
use Rattle.std.proofs.Common.{◌≡◌, ℕ, ◌+◌, ◌-◌, ◌≤◌, Bool, true, ◌&&◌, length, is_some, sym, ◌∙◌, arith}
use Rattle.std.proofs.lemmas.Bool.{and_parts, and_from}
use Rattle.equations.specs.Listings.{listed}
use Rattle.equations.specs.Removals.{Leads, Leads.here, Leads.by, Reads, Gone}
use Rattle.memory.specs.declared.entries.Entries.{Entries}
use Rattle.memory.specs.Layout.{stored}
use Rattle.memory.specs.Contents.{contents, Orderly}
use Rattle.memory.specs.Spread.{Spread}
use Rattle.memory.proofs.Shape.{entered_length}

leads_more : (link : ℕ → ℕ → Type 0) (s t : ℕ → Bool) → ((z : ℕ) → s z ≡ true → t z ≡ true) → (x : ℕ) → Leads link s x → Leads link t x
leads_more link s t h x (here e) = here (h x e)
leads_more link s t h x (by {y = y} r c) = by r (leads_more link s t h y c)

-- reads are between entries, so a touched unknown that has no entry ends no chain
pub read_of : {V : Type 0} (b : Entries V) (x y : ℕ) → (contents b).reads x y ≡ true → listed (contents b).value y ≡ true
read_of b x y r = (and_parts (is_some (stored b.cells.now y)) _ (and_parts (is_some (stored b.cells.now x)) _ r).1).0

module _ {V : Type 0} (b : Entries V) (touched from : ℕ → Bool) (is : (z : ℕ) → from z ≡ (listed (contents b).value z && touched z)) where
  to_entries : (x : ℕ) → listed (contents b).value x ≡ true → Leads (Reads (contents b)) touched x → Leads (Reads (contents b)) from x
  to_entries x l (here e) = here (is x ∙ and_from _ _ l e)
  to_entries x l (by {y = y} r c) = by r (to_entries y (read_of b x y r) c)

  from_entries : (x : ℕ) → Leads (Reads (contents b)) from x → Leads (Reads (contents b)) touched x
  from_entries = leads_more (Reads (contents b)) from touched (λ z e. (and_parts (listed (contents b).value z) _ (sym (is z) ∙ e)).1)

  -- those that go from marked entries go from touched unknowns
  pub gone_touched : (gone : ℕ → Bool) → Gone (contents b) from gone → Gone (contents b) touched gone
  gone_touched gone exactly = record {
    only = λ x l h. from_entries x (exactly.only x l h);
    all = λ x l c. exactly.all x l (to_entries x l c);
  }

  pub spread_gone : (gone : ℕ → Bool) → Spread (contents b) from gone → Gone (contents b) touched gone
  spread_gone gone spread = gone_touched gone (record { only = λ x l. spread.only x; all = λ x l. into x })
    where
      into : (x : ℕ) → Leads (Reads (contents b)) from x → gone x ≡ true
      into x (here e) = spread.base x e
      into x (by {y = y} r c) = spread.closed x y r (into y c)

pub fewer : {V : Type 0} (b b' : Entries V) → Orderly b → Orderly b' → b'.count ≤ b.count → length (contents b).entries ≡ length (contents b').entries + (b.count - b'.count)
fewer b b' orderly orderly' h = omega (arith, entered_length b.cells.now b.count orderly.room.2, entered_length b'.cells.now b'.count orderly'.room.2)
