use Rattle.std.proofs.Common.{ltb, is_some, length, sym, refl, ap, ◌∙◌, arith}
use Rattle.std.proofs.lemmas.Bool.{and_parts, and_left, le-ltb}
use Rattle.memory.specs.declared.entries.Entries.{Entries}
use Rattle.memory.specs.Layout.{stored}
use Rattle.memory.specs.Contents.{contents}
use Rattle.memory.proofs.Places.{place_of}
use Rattle.memory.proofs.Waking.{Waking, waking_none, waking_put, waking_skip, waking_all, woken_in}
use Rattle.memory.proofs.solving.Solving.rouse.Given as given
use Rattle.memory.proofs.solving.Solving.rouse.Goals as goal
use Rattle.memory.proofs.solving.Solving.rouse.Goals.{After-insert}

pub loop-z-init : goal.loop-z-init
loop-z-init g c = (
  waking_none c.args.self.now.entries.now c.args.self.now.size c.args.x c.args.self.now.waiting.words c.readers-left.result.words c.readers-left.ensures c.args.self.now.places,
  refl,
  refl,
  refl,
  refl,
)

pub pop-requires : goal.pop-requires
pop-requires g c = record {
  room = omega (arith, c.loop-z.invariant.0.within, c.loop-z.self.entries.now.room.0);
  below = λ k h. c.loop-z.invariant.0.left k ∙ and_left _ _ (le-ltb k c.loop-z.end h);
}

pub insert-requires : goal.insert-requires
insert-requires g c =
    let r = (and_parts (ltb c.in-Some.z c.loop-z.end) _ (sym (c.loop-z.invariant.0.left c.in-Some.z) ∙ c.in-Some.ensures.highest.1)).1 in
    let q = place_of c.loop-z.self.entries.now.cells.now c.loop-z.self.entries.now.count c.loop-z.self.entries.now.room.2 c.loop-z.self.entries.now.listed c.loop-z.self.entries.now.placed c.in-Some.z (and_parts (is_some (stored c.loop-z.self.entries.now.cells.now c.in-Some.z)) _ r).0 in
    omega (arith, q.0, c.place.ensures, c.loop-z.self.entries.now.room.0, c.loop-z.self.entries.now.room.2)

-- one more reader waits
woken : (g : given.Over) (c : After-insert g)
    → Waking c.loop-z.self.entries.now.cells.now c.loop-z.self.entries.now.count c.loop-z.self.size (λ z. (contents c.loop-z.self.entries.now).reads z c.args.x) c.args.self.now.waiting.words
    c.pop.new.self.words c.insert.new.self.words c.in-Some.z
woken g c = waking_put c.loop-z.self.entries.now c.loop-z.self.size c.args.x c.args.self.now.waiting.words c.loop-z.left.words c.loop-z.self.waiting.words c.loop-z.end c.loop-z.invariant.0 c.in-Some.z c.in-Some.ensures.highest.1 c.in-Some.ensures.highest.2 c.pop.new.self.words c.insert.new.self.words c.place.result c.place.ensures c.if-z-self.true c.in-Some.ensures.rest c.insert.ensures

pub invariant_of-self-then-z-self : goal.invariant_of-self-then-z-self
invariant_of-self-then-z-self g c = record { room = c.loop-z.self.room; places = (woken g (goal.at.invariant_of-self-then-z-self g c).After-insert).waiting }

pub loop-z-preserved : goal.loop-z-preserved
loop-z-preserved g c = (
  waking_skip c.loop-z.self.entries.now c.loop-z.self.size c.args.x c.args.self.now.waiting.words c.loop-z.left.words c.loop-z.self.waiting.words c.loop-z.end c.loop-z.invariant.0 c.in-Some.z c.in-Some.ensures.highest.1 c.in-Some.ensures.highest.2 c.pop.new.self.words c.if-z-self.false c.in-Some.ensures.rest,
  c.loop-z.invariant.1,
  c.loop-z.invariant.2,
  c.loop-z.invariant.3,
  c.loop-z.invariant.4,
)

pub loop-z-preserved-then-z-self : goal.loop-z-preserved-then-z-self
loop-z-preserved-then-z-self g c = (
  woken g (goal.at.loop-z-preserved-then-z-self g c).After-insert,
  c.loop-z.invariant.1,
  c.loop-z.invariant.2,
  c.loop-z.invariant.3,
  c.loop-z.invariant.4,
)

pub returns : goal.returns
returns g c = record {
  notebook = c.loop-z.invariant.1;
  roused = woken_in c.loop-z.self.entries.now c.args.self.now.entries.now c.loop-z.self.size c.args.self.now.size c.args.x c.args.self.now.waiting.words c.loop-z.self.waiting.words c.loop-z.invariant.1 c.loop-z.invariant.2
      (waking_all c.loop-z.self.entries.now c.loop-z.self.size c.args.x c.args.self.now.waiting.words c.loop-z.left.words c.loop-z.self.waiting.words c.loop-z.end c.loop-z.invariant.0 c.in_default.ensures.highest);
  kept = (c.loop-z.invariant.2, c.loop-z.invariant.3, c.loop-z.invariant.4, ap (λ (b : Entries g.row.V.Denot). length b.cells.now) c.loop-z.invariant.1);
}
