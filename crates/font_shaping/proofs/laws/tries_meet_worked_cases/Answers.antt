use Rattle.std.proofs.Common.{refl, arith}
use Rattle.font_shaping.proofs.laws.tries_meet_worked_cases.Goals as goal

pub returns : goal.returns
returns c = λ map face run b. record {
  no_steps = refl;
  two_steps = λ g h. refl;
  steps_try_none = λ g h. refl;
  no_stage = refl;
  one_stage = omega arith;
  two_stages = omega arith;
  by_morx = λ morx. rw morx refl;
  by_gsub = λ morx stages. rw (morx, stages) (omega arith);
  by_gpos = λ gpos. rw gpos (omega arith);
  without_gpos = λ gpos. rw gpos refl;
  positions_without_gpos = λ gpos. rw gpos refl;
  all_tried = omega arith;
  some_left = omega arith;
  one_too_many = λ more. omega (arith, more);
}
