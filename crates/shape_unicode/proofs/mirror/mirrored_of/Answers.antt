use Rattle.std.proofs.Common.{◌≡◌, Bool, true, false, if◌then◌else◌, Option, ℕ, sym, refl, None}
use Rattle.std.proofs.lemmas.Bool.{cond-false}
use Rattle.shape_unicode.specs.Mirror.{other_of_pair}
use Rattle.ucd_bidi.specs.Binary.{is_bidi_mirrored}
use Rattle.shape_unicode.proofs.MirrorLemmas.{no_pair_past}
use Rattle.shape_unicode.proofs.RangeLemmas.{not_mirrored, not_mirrored_before, not_mirrored_before_angles}
use Rattle.shape_unicode.proofs.mirror.mirrored_of.Goals as goal

pub returns-then-is_between_brackets : goal.returns-then-is_between_brackets
returns-then-is_between_brackets c =
    sym (cond-false (is_bidi_mirrored c.args.c) (other_of_pair c.args.c) None (not_mirrored c.args.c (sym c.if-is_between_brackets.ensures)))

pub returns-then-is_before_angles : goal.returns-then-is_before_angles
returns-then-is_before_angles c =
    sym (cond-false (is_bidi_mirrored c.args.c) (other_of_pair c.args.c) None (not_mirrored_before_angles c.args.c (sym c.if-is_before_angles.ensures)))

pub returns-then-is_before_brackets : goal.returns-then-is_before_brackets
returns-then-is_before_brackets c =
    sym (cond-false (is_bidi_mirrored c.args.c) (other_of_pair c.args.c) None (not_mirrored_before c.args.c (sym c.if-is_before_brackets.ensures)))

-- without a pair there is no image, mirrored or not
either : (mirrored : Bool) (image : Option ℕ) → image ≡ None → (if mirrored then image else None) ≡ None
either true image none = none
either false image none = refl

pub returns-then-is_past_pairs : goal.returns-then-is_past_pairs
returns-then-is_past_pairs c =
    sym (either (is_bidi_mirrored c.args.c) (other_of_pair c.args.c) (no_pair_past c.args.c (sym c.if-is_past_pairs.ensures)))
