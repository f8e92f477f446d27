-- The loop of an ask.
use Rattle.std.proofs.Common.{◌≡◌, ℕ, ◌<◌, false, ◌||◌, eqb, List, is_some, None, sym, refl, ap, ◌∙◌, subst}
use Rattle.std.proofs.lemmas.Bool.{and_right}
use Rattle.equations.specs.Systems.{System}
use Rattle.equations.specs.Rules.{Lawful}
use Rattle.equations.specs.Notebook.{Notebook}
use Rattle.equations.specs.Steps.{State, Step, Steps, Ask, start, enter}
use Rattle.equations.specs.Measure.{measure}
use Rattle.equations.proofs.Bridge.{same_state}
use Rattle.equations.proofs.Measure.{falls}
use Rattle.memory.specs.declared.entries.Entries.{Entries}
use Rattle.memory.specs.Bits.{bit}
use Rattle.memory.specs.Layout.{stored}
use Rattle.memory.specs.Contents.{contents, state, waits, Waiting}
use Rattle.memory.proofs.Places.{none_late, waits_below}

module _ {V : Type 0} (E : System V) (b : Entries V) (words : List ℕ) where
  -- where no entry waited, an ask has begun once q is entered
  pub begun : (q : ℕ) (s : State V) → ((k : ℕ) → bit words k ≡ false) → s ≡ enter E q (state b words) → s ≡ start E (contents b) q
  begun q s idle e =
      e ∙ same_state (enter E q (state b words)) (start E (contents b) q) refl (λ z. ap (λ t. eqb z q || t) (and_right (is_some (stored b.cells.now z)) _ (idle _)))

  -- each step leaves less to do
  pub asking_falls : Lawful E → (n : ℕ) → n ≡ E.size → Waiting n b.cells.now b.count words → (t : State V) → Step E (state b words) t → measure E t < measure E (state b words)
  asking_falls law n en waiting t step =
      falls E law (state b words) (λ x w. subst (λ (m : ℕ). x < m) en (waits_below b.cells.now b.count b.room.2 b.listed b.placed n words waiting x w)) step

  -- once no entry waits, the ask has ended
  pub asked_all : (N : Notebook V) (q : ℕ) (s : State V) → q < E.size → N.value q ≡ None → s ≡ start E N q → Steps E s (state b words)
      → ((k : ℕ) → bit words k ≡ false) → Ask E N q (contents b)
  asked_all N q s known fresh begin steps idle = record {
    unknown = known;
    unlisted = ap is_some fresh;
    waiting = waits b.cells.now words;
    steps = subst (λ (t : State V). Steps E t (state b words)) begin steps;
    ended = none_late b.cells.now b.count b.room.2 b.listed b.placed words idle;
  }

-- the entries are what the loop left
pub ask_of : {V : Type 0} (E : System V) (N : Notebook V) (q : ℕ) (b b' : Entries V) → b' ≡ b → Ask E N q (contents b) → Ask E N q (contents b')
ask_of {V} E N q b b' e ask = subst (λ (d : Entries V). Ask E N q (contents d)) (sym e) ask
