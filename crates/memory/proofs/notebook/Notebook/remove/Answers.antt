use Rattle.std.proofs.Common.{◌≡◌, ℕ, ◌&&◌, is_some, ⊎_elim, rules}
use Rattle.std.proofs.lemmas.Bool.{both_ways, cases_Bool}
use Rattle.memory.specs.Bits.{bit}
use Rattle.memory.specs.Layout.{stored}
use Rattle.memory.proofs.Bools.{and_cases}
use Rattle.memory.proofs.Shape.{rules_of}
use Rattle.memory.proofs.Marking.{spread_gone, fewer}
use Rattle.memory.proofs.notebook.Notebook.remove.Goals as goal

pub spread-gone-requires : goal.spread-gone-requires
spread-gone-requires g c z h = ⊎_elim (λ e. e) (λ e. absurd (both_ways _ (c.filter-marked.ensures.others z e) h)) (cases_Bool (is_some (stored c.args.self.now.entries.cells.now z)))

pub remove-requires : goal.remove-requires
remove-requires g c = c.spread-gone.ensures.closed

pub returns : goal.returns
returns g c =
    let is : (z : ℕ) → bit c.filter-marked.result.words z ≡ (is_some (stored c.args.self.now.entries.cells.now z) && bit c.args.marks.set.words z) =
    λ z. and_cases (is_some (stored c.args.self.now.entries.cells.now z)) _ _ (λ h. let p = c.filter-marked.ensures.entries z h in search rules) (c.filter-marked.ensures.others z) in
    record {
      removed = record {
        gone = bit c.spread-gone.result.words;
        exactly = spread_gone c.args.self.now.entries (bit c.args.marks.set.words) (bit c.filter-marked.result.words) is (bit c.spread-gone.result.words) c.spread-gone.ensures;
        left = c.remove.ensures.notebook;
      };
      count = fewer c.args.self.now.entries c.remove.new.self (rules_of c.args.self.now.entries) (rules_of c.remove.new.self) c.remove.ensures.count;
      capacity = c.remove.ensures.capacity;
    }
