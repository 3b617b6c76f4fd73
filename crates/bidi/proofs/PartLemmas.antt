-- The isolating run sequences have each member once.
use Rattle.std.proofs.Common.{◌≡◌, ◌==◌, List, [], ◌∷◌, ◌++◌, refl, ap, subst, sym, ◌∙◌, append_assoc, inl, inr}
use Rattle.std.proofs.lemmas.Bool.{cases_Bool, cond-true, cond-false}
use Rattle.std.proofs.lemmas.List.{append-nil}
use Rattle.std.proofs.lemmas.List.Sorted.{IsPermutation-append_left, IsPermutation-middle, IsPermutation-refl, IsPermutation-sym, IsPermutation-trans}
use Rattle.std.specs.List.Sorted.{IsPermutation}
use Rattle.ucd_bidi.specs.declared.BidiClass.TheVariants.{PopDirectionalIsolate}
use Rattle.bidi.specs.Classes.{is, is_initiator}
use Rattle.bidi.specs.Sequences.{Walk, all_made, appended, ended, interrupted, joined, members_of_all, returned, returned_to, sequences, start, starts_anew, walk_step, walked}
use Rattle.bidi.specs.declared.members.Member.{Member}

append_all : (done more : List (List Member)) → members_of_all (done ++ more) ≡ members_of_all done ++ members_of_all more
append_all [] more = refl
append_all (sequence ∷ done) more =
    ap (λ l. sequence ++ l) (append_all done more) ∙ sym (append_assoc sequence (members_of_all done) (members_of_all more))

appended_all : (sequence : List Member) (done : List (List Member)) → members_of_all (appended sequence done) ≡ members_of_all done ++ sequence
appended_all [] done = sym (append-nil (members_of_all done))
appended_all (m ∷ sequence) done = append_all done ((m ∷ sequence) ∷ []) ∙ ap (λ l. members_of_all done ++ l) (append-nil (m ∷ sequence))

-- all members that a walk has gone over
abbrev gone_over : Walk (List (List Member)) → List Member
gone_over walk = members_of_all walk.done ++ (walk.current ++ members_of_all walk.opened)

back_same : (opened : List (List Member)) (walk : Walk (List (List Member))) → walk.opened ≡ opened → gone_over (returned_to appended opened walk) ≡ gone_over walk
back_same [] walk e = refl
back_same ([] ∷ opened) walk e = ap (λ l. members_of_all walk.done ++ (walk.current ++ members_of_all l)) (sym e)
back_same ((first ∷ rest) ∷ opened) walk e =
    ap (λ l. l ++ ((first ∷ rest) ++ members_of_all opened)) (appended_all walk.current walk.done)
    ∙ append_assoc (members_of_all walk.done) walk.current ((first ∷ rest) ++ members_of_all opened)
    ∙ ap (λ l. members_of_all walk.done ++ (walk.current ++ members_of_all l)) (sym e)

returned_same : (m : Member) (walk : Walk (List (List Member))) → gone_over (returned appended m walk) ≡ gone_over walk
returned_same m walk = elim (cases_Bool (is m.original PopDirectionalIsolate)) [
  | inl on ↦ ap gone_over (cond-true (is m.original PopDirectionalIsolate) (returned_to appended walk.opened walk) walk on) ∙ back_same walk.opened walk refl
  | inr off ↦ ap gone_over (cond-false (is m.original PopDirectionalIsolate) (returned_to appended walk.opened walk) walk off)
]

-- one more, at the end of the sequence so far
one_more : (m : Member) (walk : Walk (List (List Member)))
    → IsPermutation (m ∷ gone_over walk) ((members_of_all walk.done ++ walk.current) ++ (m ∷ members_of_all walk.opened))
one_more m walk =
    IsPermutation-sym ((members_of_all walk.done ++ walk.current) ++ (m ∷ members_of_all walk.opened)) (m ∷ gone_over walk)
    (subst (λ l. IsPermutation ((members_of_all walk.done ++ walk.current) ++ (m ∷ members_of_all walk.opened)) (m ∷ l))
    (append_assoc (members_of_all walk.done) walk.current (members_of_all walk.opened))
    (IsPermutation-middle (members_of_all walk.done ++ walk.current) m (members_of_all walk.opened)))

joined_one : (m : Member) (walk : Walk (List (List Member))) → IsPermutation (m ∷ gone_over walk) (gone_over (joined appended m walk))
joined_one m walk = elim (cases_Bool (starts_anew walk.current m)) [
  | inl on ↦ subst (IsPermutation (m ∷ gone_over walk))
      (ap (λ l. l ++ (m ∷ members_of_all walk.opened)) (sym (appended_all walk.current walk.done))
      ∙ sym (ap gone_over (cond-true (starts_anew walk.current m) _ _ on))) (one_more m walk)
  | inr off ↦ subst (IsPermutation (m ∷ gone_over walk))
      (append_assoc (members_of_all walk.done) walk.current (m ∷ members_of_all walk.opened)
      ∙ ap (λ l. members_of_all walk.done ++ l) (sym (append_assoc walk.current (m ∷ []) (members_of_all walk.opened)))
      ∙ sym (ap gone_over (cond-false (starts_anew walk.current m) _ _ off))) (one_more m walk)
]

interrupted_same : (m : Member) (walk : Walk (List (List Member))) → gone_over (interrupted m walk) ≡ gone_over walk
interrupted_same m walk = elim (cases_Bool (is_initiator m.original)) [
  | inl on ↦ ap gone_over (cond-true (is_initiator m.original) _ _ on) ∙ elim (cases_Bool (m.after == m.level)) [
    | inl same ↦ ap gone_over (cond-true (m.after == m.level) _ _ same)
    | inr other ↦ ap gone_over (cond-false (m.after == m.level) _ _ other)
  ]
  | inr off ↦ ap gone_over (cond-false (is_initiator m.original) _ _ off)
]

step_one : (m : Member) (walk : Walk (List (List Member))) → IsPermutation (m ∷ gone_over walk) (gone_over (walk_step appended m walk))
step_one m walk =
    subst (IsPermutation (m ∷ gone_over walk)) (sym (interrupted_same m (joined appended m (returned appended m walk))))
    (subst (λ l. IsPermutation (m ∷ l) (gone_over (joined appended m (returned appended m walk)))) (returned_same m walk)
    (joined_one m (returned appended m walk)))

all_same : (opened done : List (List Member)) → members_of_all (all_made appended opened done) ≡ members_of_all done ++ members_of_all opened
all_same [] done = sym (append-nil (members_of_all done))
all_same (sequence ∷ opened) done =
    all_same opened (appended sequence done) ∙ ap (λ l. l ++ members_of_all opened) (appended_all sequence done)
    ∙ append_assoc (members_of_all done) sequence (members_of_all opened)

walked_all : (ms : List Member) (walk : Walk (List (List Member))) → IsPermutation (gone_over walk ++ ms) (members_of_all (ended appended (walked appended ms walk)))
walked_all [] walk =
    subst (IsPermutation (gone_over walk ++ []))
    (append-nil (gone_over walk) ∙ sym (append_assoc (members_of_all walk.done) walk.current (members_of_all walk.opened))
    ∙ ap (λ l. l ++ members_of_all walk.opened) (sym (appended_all walk.current walk.done))
    ∙ sym (all_same walk.opened (appended walk.current walk.done))) (IsPermutation-refl (gone_over walk ++ []))
walked_all (m ∷ ms) walk =
    IsPermutation-trans (gone_over walk ++ m ∷ ms) ((m ∷ gone_over walk) ++ ms) (members_of_all (ended appended (walked appended (m ∷ ms) walk)))
    (IsPermutation-middle (gone_over walk) m ms)
    (IsPermutation-trans ((m ∷ gone_over walk) ++ ms) (gone_over (walk_step appended m walk) ++ ms) (members_of_all (ended appended (walked appended ms (walk_step appended m walk))))
    (IsPermutation-append_left ms (m ∷ gone_over walk) (gone_over (walk_step appended m walk)) (step_one m walk))
    (walked_all ms (walk_step appended m walk)))

pub sequences_part : (ms : List Member) → IsPermutation ms (members_of_all (sequences ms))
sequences_part ms = walked_all ms (start [])
