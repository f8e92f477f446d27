use Rattle.std.proofs.Common.{◌<◌, ◌≤◌, is_some, sym, ap, ◌∙◌, inr, arith}
use Rattle.equations.specs.Systems.{System, system}
use Rattle.equations.specs.Steps.{Ask}
use Rattle.memory.specs.Notebooks.{held, room_of}
use Rattle.solver.proofs.Asking.{not_refused, grown, value_then}
use Rattle.solver.proofs.asks.ask.Goals as goal

pub overflow_sub-result : goal.overflow_sub-result
overflow_sub-result g c =
    let E : System g.row.V.Denot = system g.V.Lattice.kind (g.E.Equations.meaning c.args.equations.now) in
    let fits : E.size ≤ room_of c.args.notebook.now = omega (arith, c.count-n.ensures, c.capacity.ensures, c.if-capacity-n.false) in
    let known : c.args.q < E.size = omega (arith, c.count-n.ensures, c.if-q-n.false) in
    let done : Ask E (held c.args.notebook.now) c.args.q (held c.solve.new.self) =
    c.solve.ensures.solved.asks fits known (ap is_some (sym c.look.ensures ∙ c.in_default.is)) in
    omega (arith, grown E (held c.args.notebook.now) (held c.solve.new.self) c.args.q done, c.count-before.ensures, c.count.ensures)

pub unwrap-value-requires : goal.unwrap-value-requires
unwrap-value-requires g c =
    let E : System g.row.V.Denot = system g.V.Lattice.kind (g.E.Equations.meaning c.args.equations.now) in
    let fits : E.size ≤ room_of c.args.notebook.now = omega (arith, c.count-n.ensures, c.capacity.ensures, c.if-capacity-n.false) in
    let known : c.args.q < E.size = omega (arith, c.count-n.ensures, c.if-q-n.false) in
    value_then E (held c.args.notebook.now) (held c.solve.new.self) c.args.q (c.solve.ensures.solved.asks fits known (ap is_some (sym c.look.ensures ∙ c.in_default.is))) c.look-2.result c.look-2.ensures

pub returns : goal.returns
returns g c =
    let E : System g.row.V.Denot = system g.V.Lattice.kind (g.E.Equations.meaning c.args.equations.now) in
    let fits : E.size ≤ room_of c.args.notebook.now = omega (arith, c.count-n.ensures, c.capacity.ensures, c.if-capacity-n.false) in
    let known : c.args.q < E.size = omega (arith, c.count-n.ensures, c.if-q-n.false) in
    let done : Ask E (held c.args.notebook.now) c.args.q (held c.solve.new.self) =
    c.solve.ensures.solved.asks fits known (ap is_some (sym c.look.ensures ∙ c.in_default.is)) in
    record {
      asked = (
        not_refused (room_of c.args.notebook.now) E.size c.args.q fits known,
        inr done,
        sym c.look-2.ensures ∙ c.unwrap-value.ensures,
        omega (arith, grown E (held c.args.notebook.now) (held c.solve.new.self) c.args.q done, c.count-before.ensures, c.count.ensures),
      );
      capacity = c.solve.ensures.capacity;
    }
