-- The rows of keys and plans that are found.
use Rattle.std.proofs.Common.{◌≡◌, ℕ, ◌<◌, List, [], ◌∷◌, ◌∙◌, length, ap, refl, sym, arith}
use Rattle.shape_common.specs.Unicode.{UnicodeMeaning}
use Rattle.shape_common.specs.declared.text_types.Direction.{Direction}
use Rattle.shape_common.specs.declared.text_types.Direction.TheVariants.{LeftToRight, RightToLeft}
use Rattle.shape_common.specs.declared.text_types.Feature.{Feature}
use Rattle.shape_common.specs.declared.text_types.Script.{Script}
use Rattle.std.specs.Prelude.{Option, Some, None}
use Rattle.plan_cache.specs.Worked.Keys.{HasParts, KeysCompared, PlansFound, PlansKept, TextsGuessed, WorkedKeys, script_of, text}
use Rattle.plan_cache.specs.declared.keys.PlanKey.{PlanKey}
use Rattle.plan_cache.specs.declared.keys.KeptPlan.{KeptPlan}

differ : (k : ℕ) → k ≡ 4 → k ≡ 3 → ⊥
differ k a b = omega (arith, a, b)

directions : (d : Direction) → d ≡ LeftToRight → RightToLeft ≡ d → ⊥
directions d a b = absurd (let e : RightToLeft ≡ LeftToRight = b ∙ a in cc)

nothing : {X : Type 0} (x : X) (o : Option X) → o ≡ None → Some x ≡ o → ⊥
nothing x o a b = absurd (let e : Some x ≡ None = b ∙ a in cc)

empty : {X : Type 0} (x : X) (xs o : List X) → o ≡ [] → o ≡ x ∷ xs → ⊥
empty x xs o a b = absurd (let e : x ∷ xs ≡ [] = sym b ∙ a in cc)

compared : (unicode : UnicodeMeaning) (key : PlanKey) (f : Feature) → KeysCompared unicode key f
compared unicode key f = record {
  same = λ parts. record {
    face_is = parts.face_is;
    direction_is = sym parts.direction_is;
    script_is = sym parts.script_is;
    language_is = parts.language_is;
    features_are = parts.features_are;
  };
  other_face = λ other is. differ key.face other is.face_is;
  other_direction = λ other is. directions key.direction other is.direction_is;
  other_script = λ other is. nothing (script_of 0x48656272) key.script other is.script_is;
  other_language = λ other is. nothing (104 ∷ 101 ∷ []) _ other (sym is.language_is);
  other_features = λ other is. empty f [] key.features.items other is.features_are;
}

found : (unicode : UnicodeMeaning) (a b : KeptPlan ℕ) → PlansFound unicode a b
found unicode a b = record {
  second = λ is. (omega arith, λ d. is);
  past_all = λ is. let lt : 2 < 2 = is.0 in omega (arith, lt);
  not_the_last = λ none is. none 1 a (omega arith) is;
}

guessed_texts : (unicode : UnicodeMeaning) (key : PlanKey) → TextsGuessed unicode key
guessed_texts unicode key = record {
  without_direction = λ direction parts. record {
    face_is = parts.face_is;
    direction_is = rw direction (sym parts.direction_is);
    script_is = sym parts.script_is;
    language_is = parts.language_is;
    features_are = parts.features_are;
  };
  by_its_character = λ script parts. record {
    face_is = parts.face_is;
    direction_is = sym parts.direction_is;
    script_is = rw script (sym parts.script_is);
    language_is = parts.language_is;
    features_are = parts.features_are;
  };
  nothing_known = λ direction is. directions key.direction (sym is.direction_is) (sym direction);
}

too_few : {X : Type 0} (xs ys : List X) → xs ≡ ys → length xs ≡ 1 → length ys ≡ 2 → ⊥
too_few xs ys e one two = let same : length xs ≡ length ys = ap length e in omega (arith, same, one, two)

abbrev plan_of_head : List (KeptPlan ℕ) → ℕ
plan_of_head [] = 0
plan_of_head (kept ∷ plans) = kept.plan

kept : (unicode : UnicodeMeaning) (a b : KeptPlan ℕ) → PlansKept unicode a b
kept unicode a b = record {
  first = λ is. record { key = a.key; place_is = refl; behind = refl; key_is = is };
  second = λ is. record { key = b.key; place_is = refl; behind = refl; key_is = is };
  at_another_place = λ is. let place : 0 ≡ 1 = is.place_is in omega (arith, place);
  nothing_kept = λ is. too_few _ _ is.behind refl refl;
  another_plan = λ is. ap plan_of_head is.behind;
}

pub worked_keys : WorkedKeys
worked_keys = record { keys = compared; plans = found; guessed = guessed_texts; kept = kept }
