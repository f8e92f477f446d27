-- Every history keeps the notebook valid; so the theorems hold of every history.
use Rattle.std.proofs.Common.{◌≡◌, ℕ, true, List, sym, ap, ◌∙◌, subst}
use Rattle.lattice.specs.Order.{other_rank, rank_rises}
use Rattle.equations.specs.Systems.{Meaning, system}
use Rattle.equations.specs.Semantics.{Semantics, system_of, AlwaysLawful}
use Rattle.equations.specs.Listings.{listed}
use Rattle.equations.specs.Notebook.{Notebook}
use Rattle.equations.specs.Histories.{Call, Made, Made.refused_ask, Made.known, Made.asked, Made.looked, Made.refused_edit, Made.edited, Made.cleared, History, History.begins, History.goes_on}
use Rattle.equations.specs.Invariant.{Valid}
use Rattle.equations.specs.Theorems.{RunsAnswer, ValuesAreLeast, NotebooksAreSolved, EditsRemoveWhatAsks, AsksEnd, AnswersAreAsNew}
use Rattle.equations.proofs.Runs.{answered}
use Rattle.equations.proofs.Asks.{ask_valid, ask_lists, ask_keeps, one_result}
use Rattle.equations.proofs.Edits.{edit_valid, removed_chain, left_kept}
use Rattle.equations.proofs.Measure.{falls, start_ready, steps_ready, ask_ends}
use Rattle.equations.proofs.Removals.{removed}
use Rattle.equations.proofs.Values.{empty_valid, valid_least, valid_solved, same_values}

module _ {S C V F : Type 0} (sem : Semantics S C V F) (lawful : AlwaysLawful sem) where
  made_valid : (e e' : S) (N N' : Notebook V) (call : Call C) → Valid (system_of sem e) N → Made sem e N call e' N' → Valid (system_of sem e') N'
  made_valid e e' N N' call valid (refused_ask q h) = valid
  made_valid e e' N N' call valid (known q h) = valid
  made_valid e e' N N' call valid (asked q ask) = ask_valid (system_of sem e) (lawful e) N N' q valid ask
  made_valid e e' N N' call valid (looked x) = valid
  made_valid e e' N N' call valid (refused_edit change h) = valid
  made_valid e e' N N' call valid (edited change h kept removed) =
      subst (λ (M : Notebook V). Valid (system_of sem e') M) (sym removed.left)
      (edit_valid sem.kind (sem.meaning e) (sem.meaning e') (sem.touched e change) N removed.gone (lawful e) valid kept removed.exactly)
  made_valid e e' N N' call valid cleared = empty_valid (system_of sem e) (lawful e)

  pub history_valid : (e₀ e : S) (calls : List (Call C)) (N : Notebook V) → History sem e₀ calls e N → Valid (system_of sem e) N
  history_valid e₀ e calls N begins = empty_valid (system_of sem e₀) (lawful e₀)
  history_valid e₀ e calls N (goes_on {e₁ = e₁} {N₁ = N₁} h made) = made_valid e₁ e N₁ N _ (history_valid e₀ e₁ _ N₁ h) made

  pub runs_answer : RunsAnswer sem
  runs_answer = record {
    answers = λ e x k ρ. answered (system_of sem e) (lawful e) x k ρ;
    rises = λ e x s. (other_rank (lawful e).lattice _ _, rank_rises (lawful e).lattice _ _);
  }

  pub values_are_least : ValuesAreLeast sem
  values_are_least e₀ e calls N h = valid_least (system_of sem e) N (history_valid e₀ e calls N h)

  pub notebooks_are_solved : NotebooksAreSolved sem
  notebooks_are_solved = record {
    solved = λ e₀ e calls N h. valid_solved (system_of sem e) (lawful e) N (history_valid e₀ e calls N h);
    lists = λ e N N' q. ask_lists (system_of sem e) N N' q;
    keeps = λ e₀ e calls N N' q h. ask_keeps (system_of sem e) N N' q (history_valid e₀ e calls N h);
  }

  pub edits_remove_what_asks : EditsRemoveWhatAsks sem
  edits_remove_what_asks = record {
    chain = λ e₀ e calls N N' change h removed x l g.
        removed_chain (system_of sem e) N (sem.touched e change) (lawful e) (history_valid e₀ e calls N h) removed.gone removed.exactly x l
        (ap (λ M. listed M.value x) (sym removed.left) ∙ g);
    removes = λ e₀ e calls N change h. removed (system_of sem e) N (sem.touched e change) (history_valid e₀ e calls N h);
    others = λ N N' touched removed x l.
        subst (λ (M : Notebook V). listed M.value x ≡ true → (M.value x ≡ N.value x) × ((y : ℕ) → M.reads x y ≡ N.reads x y))
        (sym removed.left) (left_kept N removed.gone x) l;
  }

  pub asks_end : AsksEnd sem
  asks_end = record {
    falls = λ e N q k s t steps. falls (system_of sem e) (lawful e) s (steps_ready (system_of sem e) (lawful e) _ (start_ready (system_of sem e) N q k) steps);
    ends = λ e N q. ask_ends (system_of sem e) (lawful e) N q;
    one = λ e. one_result (system_of sem e);
  }

  pub answers_are_as_new : AnswersAreAsNew sem
  answers_are_as_new e₀ e e₀' e' calls calls' N N' h h' same =
      let valid' = subst (λ (m : Meaning V). Valid (system sem.kind m) N') (sym same) (history_valid e₀' e' calls' N' h') in
      same_values (system_of sem e) (lawful e) N N' (history_valid e₀ e calls N h) valid'
