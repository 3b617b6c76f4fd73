-- A tag whose bit isn't in the digest of both lists is in neither.
use Rattle.std.proofs.Common.{◌≡◌, ℕ, ◌/◌, ◌^◌, Bool, true, false, ◌==◌, ◌||◌, List, [], ◌∷◌, Some, None, if◌then◌else◌, nat_eq, refl, sym, ap, subst, ◌∙◌, eqb-true, bit_and}
use Rattle.std.proofs.lemmas.Bool.{and_parts}
use Rattle.std.proofs.lemmas.Nat.Bits.{shr_and_one}
use Rattle.std.specs.List.{list_all, list_any}
use Rattle.shape_common.specs.declared.text_types.hb_tag_t.{hb_tag_t}
use Rattle.shape_common.specs.declared.text_types.Script.{Script}
use Rattle.shape_common.specs.declared.text_types.Direction.TheVariants.{LeftToRight, RightToLeft}
use Rattle.shape_unicode.specs.Script.{tag_of}
use Rattle.shape_unicode.specs.ScriptDirection.{direction_of, is_either_way, tag_place, may_be_listed}
use Rattle.shape_unicode.specs.declared.script_direction.TheConstants.{RIGHT_TO_LEFT, EITHER_WAY, LISTED}

pub tested : (tag : hb_tag_t) → nat_eq (bit_and (LISTED / 2 ^ tag_place tag) 1) 1 ≡ may_be_listed tag
unfolding may_be_listed
tested tag = ap (λ x. nat_eq x 1) (shr_and_one LISTED (tag_place tag))

-- the digest has the bit of a tag of four letters
has_bit : List ℕ → Bool
has_bit letters = may_be_listed (record { 0 = tag_of letters })

right_to_left_held : list_all has_bit RIGHT_TO_LEFT ≡ true
unfolding has_bit may_be_listed
right_to_left_held = refl

either_way_held : list_all has_bit EITHER_WAY ≡ true
unfolding has_bit may_be_listed
either_way_held = refl

HasBit : ℕ → Type 0
HasBit n = may_be_listed (record { 0 = n }) ≡ true

held_by : (tag : hb_tag_t) → HasBit tag.0 → may_be_listed tag ≡ true
unfolding HasBit
held_by tag held = held

-- a tag of one of these letters has their bit
apart : (letters : List ℕ) (tag : hb_tag_t) → has_bit letters ≡ true → may_be_listed tag ≡ false → (tag_of letters == tag.0) ≡ false
unfolding has_bit HasBit
apart letters tag held out =
    let P : Bool → Type 0 = λ b. (tag_of letters == tag.0) ≡ b → b ≡ false in
    let cases : P (tag_of letters == tag.0) = elim (tag_of letters == tag.0) as P [
      | true ↦ λ e. sym (held_by tag (subst HasBit (eqb-true (tag_of letters) tag.0 e) held)) ∙ out
      | false ↦ λ e. refl
    ] in
    cases refl

not_among : (all : List (List ℕ)) (tag : hb_tag_t) → list_all has_bit all ≡ true → may_be_listed tag ≡ false
    → list_any (λ letters. tag_of letters == tag.0) all ≡ false
not_among [] tag held out = refl
not_among (x ∷ xs) tag held out =
    let both = and_parts (has_bit x) (list_all has_bit xs) held in
    ap (λ b. b || list_any (λ letters. tag_of letters == tag.0) xs) (apart x tag both.0 out) ∙ not_among xs tag both.1 out

pub unlisted : (script : Script) → may_be_listed script.0 ≡ false → direction_of script ≡ Some LeftToRight
unlisted script out =
    ap (λ r. if r then Some RightToLeft else if is_either_way script.0 then None else Some LeftToRight)
    (not_among RIGHT_TO_LEFT script.0 right_to_left_held out)
    ∙ ap (λ e. if e then None else Some LeftToRight) (not_among EITHER_WAY script.0 either_way_held out)
