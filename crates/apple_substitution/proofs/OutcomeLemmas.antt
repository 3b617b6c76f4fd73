-- A call of run_table is a step of a run: the limit stays, so it is refused for its length only if the list is past it.
use Rattle.std.proofs.Common.{◌≡◌, ◌<◌, ◌≤◌, ◌⊎◌, true, false, [], ◌∷◌, Result, Ok, Err, length, unwrap_or, refl, sym, ap, ◌∙◌, subst, inl, arith}
use Rattle.std.proofs.lemmas.Bool.Decides.{nat_tests}
use Rattle.std.specs.Prelude.{IsErrOf, OnOk}
use Rattle.shape_items.specs.Buffer.{Buffer, limit_of, most_countable}
use Rattle.shape_buffer.specs.Outcome.{Outcome, Ran, Refused, for_length, for_memory, step}
use Rattle.shape_buffer.specs.declared.buffer.error.ShapeError.{ShapeError}
use Rattle.shape_buffer.specs.declared.buffer.error.ShapeError.TheVariants.{Memory, Length}
use Rattle.apple_substitution.specs.ChainRuns.{Source}
use Rattle.apple_substitution.specs.Edits.{is_past}
use Rattle.apple_substitution.specs.Metamorphosis.{metamorphosed}
use Rattle.apple_substitution.proofs.MorxPreservation.{morx-preserves}

limit-stays : (s : Source) (b : Buffer) → limit_of (metamorphosed s b) ≡ limit_of b
limit-stays s b = ap (λ l. unwrap_or l most_countable) (morx-preserves s b).limit

morx_ran : (s : Source) (b c : Buffer) → c ≡ metamorphosed s b → is_past c ≡ false → Ran (step (metamorphosed s) ∷ []) b c
morx_ran s b c is within =
    let same : limit_of c ≡ limit_of b = ap limit_of is ∙ limit-stays s b in
    let few : length c.items ≤ limit_of c = grind (arith, nat_tests, within) in
    let counted : length (metamorphosed s b).items ≤ limit_of b =
    subst (λ (d : Buffer). length d.items ≤ limit_of b) is (subst (λ n. length c.items ≤ n) same few) in
    record { made = is; each_within = (counted, tt); within = few; same_limit = same }

past_limit : (s : Source) (b : Buffer) → is_past (metamorphosed s b) ≡ true → limit_of b < length (metamorphosed s b).items
past_limit s b past =
    let more : limit_of (metamorphosed s b) < length (metamorphosed s b).items = grind (arith, nat_tests, past) in
    subst (λ n. n < length (metamorphosed s b).items) (limit-stays s b) more

morx_refused : {T : Type 0} (s : Source) (b : Buffer) (error : ShapeError)
    → (IsErrOf {T = T} (Err error) Length → is_past (metamorphosed s b) ≡ true) → Refused (step (metamorphosed s) ∷ []) b error
morx_refused s b Memory past = for_memory
morx_refused s b Length past = for_length (inl (past_limit s b (past refl)))

pub morx-outcome : {T : Type 0} (s : Source) (b c : Buffer) (result : Result T ShapeError) → OnOk result (c ≡ metamorphosed s b)
    → OnOk result (is_past c ≡ false) → (IsErrOf result Length → is_past (metamorphosed s b) ≡ true)
    → Outcome (step (metamorphosed s)) b c result
morx-outcome s b c (Ok x) is within past = morx_ran s b c is within
morx-outcome {T} s b c (Err error) is within past = morx_refused {T = T} s b error past

-- ---- of one that is made alike

ran_alike : (f g : Buffer → Buffer) (b c : Buffer) → f b ≡ g b → Ran (step g ∷ []) b c → Ran (step f ∷ []) b c
ran_alike f g b c alike ran =
    let counted : length (f b).items ≤ limit_of b = subst (λ (d : Buffer). length d.items ≤ limit_of b) (sym alike) ran.each_within.0 in
    record { made = ran.made ∙ sym alike; each_within = (counted, tt); within = ran.within; same_limit = ran.same_limit }

refused_alike : (f g : Buffer → Buffer) (b : Buffer) (error : ShapeError) → f b ≡ g b → Refused (step g ∷ []) b error
    → Refused (step f ∷ []) b error
refused_alike f g b Memory alike refused = for_memory
refused_alike f g b Length alike (for_length past) =
    for_length (subst (λ (d : Buffer). (limit_of b < length d.items) ⊎ ⊥) (sym alike) past)

pub outcome_alike : {T : Type 0} (f g : Buffer → Buffer) (b c : Buffer) (result : Result T ShapeError) → f b ≡ g b
    → Outcome (step g) b c result → Outcome (step f) b c result
outcome_alike f g b c (Ok x) alike ran = ran_alike f g b c alike ran
outcome_alike f g b c (Err error) alike refused = refused_alike f g b error alike refused
