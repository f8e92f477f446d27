use Rattle.std.proofs.Common.{◌≡◌, ℕ, ◌<◌, not, ◌&&◌, ◌||◌, eqb, length, refl, ap, ◌∙◌, ⊎_elim, arith}
use Rattle.std.proofs.lemmas.Bool.{cases_Bool}
use Rattle.memory.specs.Bits.{bit}
use Rattle.memory.specs.Contents.{contents}
use Rattle.memory.proofs.Shape.{inside}
use Rattle.memory.proofs.Spreading.{spreading_none, Spreading, left, spreading_turn, spread_all, read_by}
use Rattle.memory.proofs.entries.Entries.spread.Given as given
use Rattle.memory.proofs.entries.Entries.spread.Goals as goal
use Rattle.memory.proofs.entries.Entries.spread.Goals.{After-add-in-Some}

pub loop-y-init : goal.loop-y-init
loop-y-init g c = spreading_none (contents c.args.self.now) (read_by c.args.self.now) (bit c.args.from.words) (bit c.args.from.words) c.requires (λ z. refl)

pub pop-requires : goal.pop-requires
pop-requires g c = record {
  room = c.args.self.now.room.0;
  below = λ k h. ⊎_elim (λ e. absurd (omega (arith, h, inside c.args.self.now.cells.now k (c.loop-y.invariant.entries k (c.loop-y.invariant.inside k e))))) (λ e. e) (cases_Bool (bit c.loop-y.pending.words k));
}

pub readers-new-requires : goal.readers-new-requires
readers-new-requires g c = c.loop-y.invariant.entries _ (c.loop-y.invariant.inside _ c.in-Some.ensures.highest.1)

-- the readers of y that are new wait in its place
turn : (g : given.Over) (c : After-add-in-Some g)
    → Spreading (contents c.args.self.now) (bit c.args.from.words) (bit c.add.new.self.words) (bit c.add-in-Some.new.self.words)
    × ((n : ℕ) → c.in-Some.y < n → left (bit c.add.new.self.words) (bit c.add-in-Some.new.self.words) n < left (bit c.loop-y.pending.words) (bit c.loop-y.set.words) n)
turn g c =
    let fresh : (z : ℕ) → bit c.strike.new.row z ≡ ((contents c.args.self.now).reads z c.in-Some.y && not (bit c.loop-y.set.words z)) =
    λ z. c.strike.ensures z ∙ ap (λ t. t && not (bit c.loop-y.set.words z)) (c.readers-new.ensures z) in
    spreading_turn (contents c.args.self.now) (read_by c.args.self.now) (bit c.args.from.words) (bit c.loop-y.pending.words) (bit c.loop-y.set.words) (bit c.add.new.self.words) (bit c.add-in-Some.new.self.words) c.in-Some.y c.loop-y.invariant c.in-Some.ensures.highest.1
    (λ z. c.add.ensures z ∙ ap (λ t. t || bit c.strike.new.row z) (c.in-Some.ensures.rest z) ∙ ap (λ t. (not (eqb z c.in-Some.y) && bit c.loop-y.pending.words z) || t) (fresh z))
    (λ z. c.add-in-Some.ensures z ∙ ap (λ t. bit c.loop-y.set.words z || t) (fresh z))

pub loop-y-smaller : goal.loop-y-smaller
loop-y-smaller g c = (turn g c).1 (length c.args.self.now.cells.now) c.in-Some.ensures.highest.0

pub loop-y-preserved : goal.loop-y-preserved
loop-y-preserved g c = (turn g c).0

pub returns : goal.returns
returns g c = spread_all (contents c.args.self.now) (read_by c.args.self.now) (bit c.args.from.words) (bit c.loop-y.pending.words) (bit c.loop-y.set.words) c.loop-y.invariant c.in_default.ensures.highest
