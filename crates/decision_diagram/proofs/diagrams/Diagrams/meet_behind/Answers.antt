use Rattle.std.proofs.Common.{◌≡◌, ℕ, arith}
use Rattle.std.proofs.lemmas.Bool.Decides.{nat_tests}
use Rattle.decision_diagram.proofs.Extending.{looks_earlier}
use Rattle.decision_diagram.proofs.GoneDown.{AreEndsIn, ends_behind, kept_by_both, met_behind, put_in}
use Rattle.decision_diagram.proofs.diagrams.Diagrams.meet_behind.Goals as goal

both_ends : (c : goal.In_ok-insert-2) → AreEndsIn c.args.self.now c.min-bit.result c.args.a c.args.b c.args.pairs.now.keys c.insert-2.new.self.keys
both_ends c = record {
  first = grind (arith, nat_tests, c.min-bit.ensures, c.bit_of.ensures.first, c.bit_of-2.ensures.first);
  a_reduced = looks_earlier c.args.self.now 0 c.bit_of.result c.args.a (omega arith) c.bit_of.ensures.from;
  b_reduced = looks_earlier c.args.self.now 0 c.bit_of-2.result c.args.b (omega arith) c.bit_of-2.ensures.from;
  a_low = c.ends_at-a_low.result.0;
  a_high = c.ends_at-a_low.result.1;
  b_low = c.ends_at-b_low.result.0;
  b_high = c.ends_at-b_low.result.1;
  a_ends = c.ends_at-a_low.ensures;
  b_ends = c.ends_at-b_low.ensures;
  between = c.insert.new.self.keys;
  low_put = put_in c.args.pairs.now.keys c.insert.new.self.keys (c.ends_at-a_low.result.0, c.ends_at-b_low.result.0) c.in_ok-insert.ensures.keys;
  high_put = put_in c.insert.new.self.keys c.insert-2.new.self.keys (c.ends_at-a_low.result.1, c.ends_at-b_low.result.1) c.in_ok-insert-2.ensures.keys;
}

pub returns-clause-met : goal.returns-clause-met
returns-clause-met c = met_behind c.args.self.now c.min-bit.result c.args.a c.args.b c.args.pairs.now.keys c.insert-2.new.self.keys (both_ends c)

pub returns-clause-behind : goal.returns-clause-behind
returns-clause-behind c = ends_behind c.args.self.now c.min-bit.result c.args.a c.args.b c.args.pairs.now.keys c.insert-2.new.self.keys (both_ends c)

pub returns-clause-older : goal.returns-clause-older
returns-clause-older c = kept_by_both c.args.self.now c.min-bit.result c.args.a c.args.b c.args.pairs.now.keys c.insert-2.new.self.keys (both_ends c)
