-- The offsets of units rise, and so do those that are chosen among them.
use Rattle.std.proofs.Common.{◌≡◌, ℕ, zero, suc, ◌+◌, ◌<◌, ◌≤◌, ◌==◌, ◌&&◌, Bool, true, false, List, [], ◌∷◌, ◌++◌, length, get_or, map, sym, ap, subst, ◌∙◌, arith, inl, inr}
use Rattle.std.proofs.lemmas.Bool.{cases_Bool, cond-true, cond-false}
use Rattle.std.proofs.lemmas.List.{map_push, append-nil}
use Rattle.std.proofs.lemmas.List.Sums.{sum_by-cons}
use Rattle.std.specs.Char.{len_utf8}
use Rattle.std.specs.List.{sum_by}
use Rattle.std.specs.List.Sorted.{IsNonDecreasing}
use Rattle.std.specs.Str.{chars, IsUtf8}
use Rattle.ucd_breaks.specs.declared.LineBreak.TheVariants.{Space, Zwj}
use Rattle.line_breaks.specs.Breaks.{verdict_number, offsets_of, spaces_of, end_of, verdicts_of, AreLineBreaks, AreRising}
use Rattle.line_breaks.specs.Letters.{is, letter_of}
use Rattle.line_breaks.specs.Units.{attaches, alone, unit, put, takes_after, units_from, units_of}
use Rattle.line_breaks.specs.declared.breaking.LineBreaks.{LineBreaks}
use Rattle.line_breaks.specs.declared.letters.Letter.{Letter}
use Rattle.line_breaks.specs.declared.rules.Verdict.{Verdict}
use Rattle.line_breaks.specs.declared.rules.Verdict.TheVariants.{Allowed, Mandatory}
use Rattle.line_breaks.specs.declared.units.Unit.{Unit}
use Rattle.line_breaks.proofs.TextLemmas.{sum_by-chars}

-- from a number on, never falling, up to another
abbrev FromTo : ℕ → List ℕ → ℕ → Type 0
FromTo lo [] hi = lo ≤ hi
FromTo lo (x ∷ xs) hi = (lo ≤ x) × FromTo x xs hi

ends : (lo : ℕ) (xs : List ℕ) (hi : ℕ) → FromTo lo xs hi → lo ≤ hi
ends lo [] hi h = h
ends lo (x ∷ xs) hi h = let rest = ends x xs hi h.1 in let le = h.0 in omega arith

lower : (lo x : ℕ) (xs : List ℕ) (hi : ℕ) → lo ≤ x → FromTo x xs hi → FromTo lo xs hi
lower lo x [] hi le h = omega arith
lower lo x (y ∷ xs) hi le h = let first = h.0 in (omega arith, h.1)

higher : (lo : ℕ) (xs : List ℕ) (hi top : ℕ) → hi ≤ top → FromTo lo xs hi → FromTo lo xs top
higher lo [] hi top le h = omega arith
higher lo (x ∷ xs) hi top le h = (h.0, higher x xs hi top le h.1)

pushed : (lo : ℕ) (xs : List ℕ) (hi top : ℕ) → hi ≤ top → FromTo lo xs hi → FromTo lo (xs ++ hi ∷ []) top
pushed lo [] hi top le h = (h, le)
pushed lo (x ∷ xs) hi top le h = (h.0, pushed x xs hi top le h.1)

at_least : (lo : ℕ) (xs : List ℕ) (hi k d : ℕ) → FromTo lo xs hi → k < length xs → lo ≤ get_or xs k d
at_least lo [] hi k d h lt = absurd (omega arith)
at_least lo (x ∷ xs) hi zero d h lt = h.0
at_least lo (x ∷ xs) hi (suc k) d h lt = let le = h.0 in let rest = at_least x xs hi k d h.1 (omega arith) in omega arith

rising : (lo : ℕ) (xs : List ℕ) (hi : ℕ) → FromTo lo xs hi → IsNonDecreasing xs
rising lo [] hi h i j d le lt = absurd (omega arith)
rising lo (x ∷ xs) hi h zero zero d le lt = omega arith
rising lo (x ∷ xs) hi h zero (suc j) d le lt = at_least x xs hi j d h.1 (omega arith)
rising lo (x ∷ xs) hi h (suc i) zero d le lt = absurd (omega arith)
rising lo (x ∷ xs) hi h (suc i) (suc j) d le lt = rising x xs hi h.1 i j d (omega arith) (omega arith)

abbrev offsets : List Unit → List ℕ
offsets us = map (λ (u : Unit). u.offset) us

put_rises : (takes joined : Bool) (offset top : ℕ) (l : Letter) (us : List Unit) → offset ≤ top → FromTo 0 (offsets us) offset
    → FromTo 0 (offsets (put takes joined offset l us)) top
put_rises takes joined offset top l us le h = elim (cases_Bool (takes && attaches l)) [
  | inl on ↦ subst (λ v. FromTo 0 (offsets v) top) (sym (cond-true (takes && attaches l) _ _ on)) (higher 0 (offsets us) offset top le h)
  | inr off ↦ subst (λ v. FromTo 0 (offsets v) top) (sym (cond-false (takes && attaches l) _ _ off))
      (subst (λ v. FromTo 0 v top) (sym (map_push (λ (u : Unit). u.offset) us (unit offset (alone l) joined))) (pushed 0 (offsets us) offset top le h))
]

units_rise : (cs : List ℕ) (takes joined : Bool) (offset : ℕ) (us : List Unit) → FromTo 0 (offsets us) offset
    → FromTo 0 (offsets (units_from takes joined offset us cs)) (offset + sum_by len_utf8 cs)
units_rise [] takes joined offset us h = higher 0 (offsets us) offset (offset + sum_by len_utf8 []) (omega arith) h
units_rise (c ∷ cs) takes joined offset us h =
    let one = put_rises takes joined offset (offset + len_utf8 c) (letter_of c) us (omega arith) h in
    let rest = units_rise cs (takes_after takes (letter_of c)) (is (letter_of c) Zwj) (offset + len_utf8 c) (put takes joined offset (letter_of c) us) one in
    let sum = sum_by-cons len_utf8 c cs in
    higher 0 (offsets (units_from takes joined offset us (c ∷ cs))) (offset + len_utf8 c + sum_by len_utf8 cs) (offset + sum_by len_utf8 (c ∷ cs))
    (omega (arith, sum)) rest

chosen : (wanted : Verdict) (us : List Unit) (vs : List Verdict) (lo hi : ℕ) → FromTo lo (offsets us) hi → FromTo lo (offsets_of wanted us vs) hi
chosen wanted [] vs lo hi h = h
chosen wanted (u ∷ us) [] lo hi h = ends lo (offsets (u ∷ us)) hi h
chosen wanted (u ∷ us) (v ∷ vs) lo hi h =
    let rest = chosen wanted us vs u.offset hi h.1 in
    elim (cases_Bool (verdict_number v == verdict_number wanted)) [
      | inl one ↦ subst (λ l. FromTo lo l hi) (sym (cond-true (verdict_number v == verdict_number wanted) _ _ one)) (h.0, rest)
      | inr none ↦ subst (λ l. FromTo lo l hi) (sym (cond-false (verdict_number v == verdict_number wanted) _ _ none))
          (lower lo u.offset (offsets_of wanted us vs) hi h.0 rest)
    ]

spaces_rise : (us : List Unit) (lo hi : ℕ) → FromTo lo (offsets us) hi → FromTo lo (spaces_of us) hi
spaces_rise [] lo hi h = h
spaces_rise (u ∷ us) lo hi h =
    let rest = spaces_rise us u.offset hi h.1 in
    elim (cases_Bool (is u.letter Space)) [
      | inl one ↦ subst (λ l. FromTo lo l hi) (sym (cond-true (is u.letter Space) _ _ one)) (h.0, rest)
      | inr none ↦ subst (λ l. FromTo lo l hi) (sym (cond-false (is u.letter Space) _ _ none)) (lower lo u.offset (spaces_of us) hi h.0 rest)
    ]

end_rises : (xs bs : List ℕ) → FromTo 0 xs (length bs) → FromTo 0 (xs ++ end_of bs) (length bs)
end_rises xs [] h = subst (λ l. FromTo 0 l 0) (sym (append-nil xs)) h
end_rises xs (b ∷ bs) h = pushed 0 xs (length (b ∷ bs)) (length (b ∷ bs)) (omega arith) h

pub breaks_rise : (bs : List ℕ) (breaks : LineBreaks) → IsUtf8 bs → AreLineBreaks bs breaks → AreRising breaks
breaks_rise bs breaks utf8 are =
    let us = units_of bs in
    let vs = verdicts_of [] us in
    let all = units_rise (chars bs) false false 0 [] (omega arith) in
    let end : 0 + sum_by len_utf8 (chars bs) ≡ length bs = omega (arith, sum_by-chars bs utf8) in
    let within : FromTo 0 (offsets us) (length bs) = subst (FromTo 0 (offsets us)) end all in
    record {
      allowed = subst IsNonDecreasing (sym are.allowed) (rising 0 _ (length bs) (chosen Allowed us vs 0 (length bs) within));
      mandatory = subst IsNonDecreasing (sym are.mandatory) (rising 0 _ (length bs) (end_rises _ bs (chosen Mandatory us vs 0 (length bs) within)));
      spaces = subst IsNonDecreasing (sym are.spaces) (rising 0 _ (length bs) (spaces_rise us 0 (length bs) within));
    }
