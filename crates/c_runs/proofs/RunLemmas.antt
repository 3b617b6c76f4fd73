-- The glyphs of runs, one run after the other.
use Rattle.std.proofs.Common.{◌≡◌, ◌∙◌, ℕ, suc, ◌+◌, ◌<◌, List, [], ◌∷◌, ◌++◌, length, take, drop, set, get_or, refl, ap, sym, arith, append_assoc, drop-cons, length-append}
use Rattle.std.proofs.Math.Seq.{set-append_seam, take-append_seam, drop-append-add, get_or-append_seam}
use Rattle.std.proofs.lemmas.List.{take_more, length-take-le, drop-drop, append-nil}
use Rattle.c_runs.specs.Glyphs.{joined, counted}
use Rattle.c_runs.specs.Outcomes.{IsDone}
use Rattle.c_runs.specs.declared.plain.luthgarn_glyph.{luthgarn_glyph}
use Rattle.c_runs.specs.declared.plain.luthgarn_run.{luthgarn_run}

-- what is written after the first elements of a list
put_after : {X : Type 0} (done xs old room new : List X) (used n : ℕ) → room ≡ done ++ drop used old → used ≡ length done
    → new ≡ take used room ++ (xs ++ drop (used + n) room) → new ≡ (done ++ xs) ++ drop (used + n) old
put_after done xs old room new used n is u written =
    let front : take used room ≡ done =
    ap (take used) is ∙ ap (λ m. take m (done ++ drop used old)) u ∙ take-append_seam done (drop used old) in
    let rest : drop (used + n) room ≡ drop (used + n) old =
    ap (drop (used + n)) is ∙ ap (λ m. drop (m + n) (done ++ drop used old)) u ∙ drop-append-add done (drop used old) n
    ∙ drop-drop n used old in
    written ∙ ap (λ r. r ++ (xs ++ drop (used + n) room)) front ∙ ap (λ r. done ++ (xs ++ r)) rest
    ∙ sym (append_assoc done xs (drop (used + n) old))

-- the element after them
set_after : {X : Type 0} (done old list : List X) (k : ℕ) (y : X) → list ≡ done ++ drop k old → length done ≡ k → k < length old
    → set list k y ≡ (done ++ y ∷ []) ++ drop (k + 1) old
set_after done old list k y is n lt =
    let x = get_or old k y in
    let rest = drop (suc k) old in
    let after : suc k ≡ k + 1 = omega arith in
    ap (λ l. set l k y) (is ∙ ap (λ r. done ++ r) (drop-cons old k y lt))
    ∙ ap (λ m. set (done ++ x ∷ rest) m y) (sym n) ∙ set-append_seam done x rest y
    ∙ sym (append_assoc done (y ∷ []) rest) ∙ ap (λ m. (done ++ y ∷ []) ++ drop m old) after

module _ (glyphs : luthgarn_run → List luthgarn_glyph) where
  joined-more : (runs : List luthgarn_run) (run : luthgarn_run) → joined glyphs (runs ++ run ∷ []) ≡ joined glyphs runs ++ glyphs run
  joined-more [] run = append-nil (glyphs run)
  joined-more (first ∷ runs) run =
      ap (λ r. glyphs first ++ r) (joined-more runs run) ∙ sym (append_assoc (glyphs first) (joined glyphs runs) (glyphs run))

  length-counted : (n : ℕ) (runs : List luthgarn_run) → length (counted glyphs n runs) ≡ length runs
  length-counted n [] = refl
  length-counted n (run ∷ runs) = ap suc (length-counted (n + length (glyphs run)) runs)

  counted-more : (n : ℕ) (runs : List luthgarn_run) (run : luthgarn_run) (m : ℕ)
      → m ≡ n + length (joined glyphs runs) + length (glyphs run)
      → counted glyphs n (runs ++ run ∷ []) ≡ counted glyphs n runs ++ record run { glyphs = m } ∷ []
  counted-more n [] run m is =
      let here : n + length (glyphs run) ≡ m = omega arith in ap (λ k. record run { glyphs = k } ∷ []) here
  counted-more n (first ∷ runs) run m is =
      let next = n + length (glyphs first) in
      let both = length-append (glyphs first) (joined glyphs runs) in
      let there : m ≡ next + length (joined glyphs runs) + length (glyphs run) = omega arith in
      ap (λ r. record first { glyphs = next } ∷ r) (counted-more next runs run m there)

  module _ (old : List luthgarn_run) (room : List luthgarn_glyph) where
    pub done-none : IsDone glyphs old old room room 0 0
    done-none = record { count = refl; glyphs_are = refl; runs_are = refl }

    -- the next run is as it was
    pub next-run : (k used : ℕ) (runs : List luthgarn_run) (new : List luthgarn_glyph) (d : luthgarn_run)
        → IsDone glyphs old runs room new k used → k < length old → get_or runs k d ≡ get_or old k d
    next-run k used runs new d done lt =
        let before = counted glyphs 0 (take k old) in
        let first : length before ≡ k = length-counted 0 (take k old) ∙ length-take-le k old (omega arith) in
        let x = get_or old k d in
        let rest = drop (suc k) old in
        ap (λ l. get_or l k d) (done.runs_are ∙ ap (λ r. before ++ r) (drop-cons old k d lt))
        ∙ ap (λ m. get_or (before ++ x ∷ rest) m d) (sym first) ∙ get_or-append_seam before x rest d

    -- one run more
    pub done-more : (k used n : ℕ) (runs : List luthgarn_run) (new newer : List luthgarn_glyph) (run d : luthgarn_run) → IsDone glyphs old runs room new k used
        → k < length old → run ≡ get_or old k d → n ≡ length (glyphs run)
        → newer ≡ take used new ++ (glyphs run ++ drop (used + n) new)
        → IsDone glyphs old (set runs k (record run { glyphs = used + n })) room newer (k + 1) (used + n)
    done-more k used n runs new newer run d done lt is count wrote =
        let one : take (k + 1) old ≡ take k old ++ run ∷ [] = take_more old k d lt ∙ ap (λ r. take k old ++ r ∷ []) (sym is) in
        let joins : joined glyphs (take (k + 1) old) ≡ joined glyphs (take k old) ++ glyphs run =
        ap (joined glyphs) one ∙ joined-more (take k old) run in
        let lengths = length-append (joined glyphs (take k old)) (glyphs run) in
        let had = done.count in
        let long : length (joined glyphs (take (k + 1) old)) ≡ length (joined glyphs (take k old) ++ glyphs run) = ap length joins in
        let first : length (counted glyphs 0 (take k old)) ≡ k =
        length-counted 0 (take k old) ∙ length-take-le k old (omega arith) in
        let m : used + n ≡ 0 + length (joined glyphs (take k old)) + length (glyphs run) = omega arith in
        record {
          count = omega arith;
          glyphs_are = put_after (joined glyphs (take k old)) (glyphs run) room new newer used n done.glyphs_are done.count wrote
              ∙ ap (λ r. r ++ drop (used + n) room) (sym joins);
          runs_are = set_after (counted glyphs 0 (take k old)) old runs k (record run { glyphs = used + n }) done.runs_are first lt
              ∙ ap (λ r. r ++ drop (k + 1) old) (sym (ap (counted glyphs 0) one ∙ counted-more 0 (take k old) run (used + n) m));
        }
