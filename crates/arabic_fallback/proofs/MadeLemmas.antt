-- Steps that are never refused, one after the other, and refusals of memory before them.
use Rattle.std.proofs.Common.{◌≤◌, length, ap, subst, ◌∙◌, arith, Result, Ok, Err}
use Rattle.std.specs.Prelude.{OnOk, IsOkUnless}
use Rattle.shape_items.specs.Buffer.{Buffer, limit_of}
use Rattle.shape_buffer.specs.Outcome.{IsWithinLimit, Made, Outcome, step, for_memory}
use Rattle.shape_buffer.specs.declared.buffer.error.ShapeError.{ShapeError}
use Rattle.shape_buffer.specs.declared.buffer.error.ShapeError.TheVariants.{Memory}

pub Made-then : (f g : Buffer → Buffer) (a b c : Buffer) → Made f a b → Made g b c → Made (λ x. g (f x)) a c
Made-then f g a b c first later = record {
  made = later.made ∙ ap g first.made;
  no_longer = omega (arith, first.no_longer, later.no_longer);
  same_limit = later.same_limit ∙ first.same_limit;
}

pub OnOk-then : {T E P Q : Type 0} (r : Result T E) → (P → Q) → OnOk r P → OnOk r Q
OnOk-then (Ok v) f p = f p
OnOk-then (Err e) f p = p

pub Outcome-made : {T : Type 0} (f : Buffer → Buffer) (a b : Buffer) → IsWithinLimit a → (r : Result T ShapeError) → OnOk r (Made f a b)
    → IsOkUnless r Memory → Outcome (step f) a b r
Outcome-made f a b within (Ok v) made memory = record {
  made = made.made;
  each_within = (subst (λ (x : Buffer). length x.items ≤ limit_of a) made.made (omega (arith, made.no_longer, within)), tt);
  within = omega (arith, made.no_longer, made.same_limit, within);
  same_limit = made.same_limit;
}
Outcome-made f a b within (Err e) made memory = rw memory for_memory
