-- How the words of a line are taken off one by one, and parted at a `/`.
use Rattle.std.proofs.Common.{◌≡◌, ◌≢◌, ℕ, ◌<◌, ◌-◌, ⊎_elim, false, List, [], ◌∷◌, ◌++◌, length, drop, take, get_or, Option, Some, None, unwrap_or}
use Rattle.std.proofs.Common.{◌==◌, refl, sym, ◌∙◌, ap, subst, lit<, arith, append-nil, append_assoc, take-append-drop, suc}
use Rattle.std.proofs.Math.ListN.{drop_of_length-le}
use Rattle.std.proofs.Math.Seq.{drop-cons}
use Rattle.std.proofs.lemmas.Bool.{cases_Bool}
use Rattle.std.proofs.lemmas.Bool.Decides.{nat_tests}
use Rattle.std.proofs.lemmas.List.Elements.{All-from_get_or, All-head, All-tail, All-nil, All-cons, filter-append}
use Rattle.std.proofs.lemmas.List.Splits.{slice_split_at, slice_split_none, slice_split-cons_yes, slice_split-cons_no, length-slice_split}
use Rattle.std.proofs.lemmas.Str.{encode_ascii}
use Rattle.std.proofs.lemmas.Str.Pattern.{drop_at_char, split_parts, split_after, IsSplitOnceResult}
use Rattle.std.specs.List.{All, filter, slice_split, onto_first}
use Rattle.std.specs.Str.Pattern.{FindsCharPrefix, CutsPrefixes, IsTrimStartMatches, IsFullyTrimmed}
use Rattle.shape_sessions.specs.Words.{words, is_some_text}
use borrow.Author.Tests.{eqb-true}
use denote.Ref.{Bor}

-- no space stands first
abbrev BeginsAWord : List ℕ → Type 0
BeginsAWord line = (rest : List ℕ) → line ≢ 32 ∷ rest

-- spaces that are cut off the front change no word
words-cut : (spaces line rest : List ℕ) → CutsPrefixes (FindsCharPrefix 32) line spaces rest → words rest ≡ words line
words-cut [] line rest cut = ap words cut
words-cut (n ∷ spaces) line rest (between, cuts, space, last) =
    let begins : between ≡ 32 ∷ drop n between = drop_at_char 32 between 0 n space (lit< tt) in
    ap words last ∙ sym (ap words begins) ∙ words-cut spaces line between cuts

begins_a_word : (line : List ℕ) → IsFullyTrimmed (FindsCharPrefix 32) line → BeginsAWord line
begins_a_word line (None, none, empty) = λ rest e. none rest (e ∙ ap (λ space. space ++ rest) (sym (encode_ascii 32 (lit< tt))))
begins_a_word line (Some n, space, empty) = λ rest e. let ends = space.ends in absurd (omega (arith, ends, empty))

pub words-trim : (line rest : List ℕ) → IsTrimStartMatches (FindsCharPrefix 32) line rest → (words rest ≡ words line) × BeginsAWord rest
words-trim line rest ((spaces, cuts), trimmed) = (words-cut spaces line rest cuts, begins_a_word rest trimmed)

-- a word that a space follows
words-before : (word rest : List ℕ) → All (λ b. (b == 32) ≡ false) word → BeginsAWord (word ++ 32 ∷ rest)
    → words (word ++ 32 ∷ rest) ≡ word ∷ words rest
words-before [] rest letters begins = absurd (begins rest refl)
words-before (b ∷ bs) rest letters begins = ap (filter is_some_text) (slice_split_at (λ b. b == 32) (b ∷ bs) 32 rest letters refl)

-- a word at the end of a line
words-last : (word : List ℕ) → All (λ b. (b == 32) ≡ false) word → 0 < length word → words word ≡ word ∷ []
words-last [] letters some = absurd (omega arith)
words-last (b ∷ bs) letters some = ap (filter is_some_text) (slice_split_none (λ b. b == 32) (b ∷ bs) letters)

-- an empty line has none
pub words-none : (line : List ℕ) → length line ≡ 0 → words line ≡ []
words-none [] empty = refl
words-none (b ∷ bs) empty = absurd (omega arith)

letters_of : (word : List ℕ) → ((i : ℕ) → i < length word → get_or word i 0 ≢ 32) → All (λ b. (b == 32) ≡ false) word
letters_of word unlike = All-from_get_or (λ b. (b == 32) ≡ false) word 0 (λ i h. let other = unlike i h in grind (arith, nat_tests))

-- the first word and the words after it, as `split_once` gives them
pub words-split : (line : List ℕ) (cut : Option (Bor (List ℕ) × Bor (List ℕ))) (whole : Bor (List ℕ) × Bor (List ℕ))
    → IsSplitOnceResult 32 line cut → BeginsAWord line → 0 < length line → whole.0.now ≡ line → whole.1.now ≡ []
    → words line ≡ (unwrap_or cut whole).0.now ∷ words (unwrap_or cut whole).1.now
words-split line None whole result begins some is_line is_empty =
    let unlike = split_parts 32 line None result (lit< tt) in
    words-last line (letters_of line unlike) some ∙ ap (λ w. w ∷ []) (sym is_line) ∙ ap (λ ws. whole.0.now ∷ words ws) (sym is_empty)
words-split line (Some parts) whole result begins some is_line is_empty =
    let cut = split_parts 32 line (Some parts) result (lit< tt) in
    let same : line ≡ parts.0.now ++ 32 ∷ parts.1.now = cut.0 in
    ap words same ∙ words-before parts.0.now parts.1.now (letters_of parts.0.now cut.1) (λ rest e. begins rest (same ∙ e))

-- ---- the first `/` (47) of a line, if it is a word by itself

abbrev pub NoSlash : List ℕ → Type 0
NoSlash text = All (λ b. b ≢ 47) text

-- no word of the text reaches its end
abbrev pub EndsClear : List ℕ → Type 0
EndsClear text = 0 < length text → get_or text (length text - 1) 0 ≡ 32

-- no word of the text stands at its front
abbrev pub BeginsClear : List ℕ → Type 0
BeginsClear text = 0 < length text → get_or text 0 0 ≡ 32

-- the `/` between the texts is the first, and a word by itself
abbrev IsPartedAt : List ℕ → List ℕ → List ℕ → Type 0
IsPartedAt line first second = (line ≡ first ++ 47 ∷ second) × NoSlash first × EndsClear first × BeginsClear second

onto_first-append : (b : ℕ) (parts more : List (List ℕ)) → 0 < length parts → onto_first b (parts ++ more) ≡ onto_first b parts ++ more
onto_first-append b [] more some = absurd (omega arith)
onto_first-append b (part ∷ parts) more some = refl

parts-append : (xs ys : List ℕ)
    → slice_split (λ b. b == 32) (xs ++ 32 ∷ ys) ≡ slice_split (λ b. b == 32) xs ++ slice_split (λ b. b == 32) ys
parts-append [] ys = refl
parts-append (x ∷ xs) ys = ⊎_elim
    (λ space. slice_split-cons_yes (λ b. b == 32) x (xs ++ 32 ∷ ys) space ∙ ap (λ parts. [] ∷ parts) (parts-append xs ys)
    ∙ ap (λ parts. parts ++ slice_split (λ b. b == 32) ys) (sym (slice_split-cons_yes (λ b. b == 32) x xs space)))
    (λ letter.
    let some : 0 < length (slice_split (λ b. b == 32) xs) = omega (arith, length-slice_split (λ b. b == 32) xs) in
    slice_split-cons_no (λ b. b == 32) x (xs ++ 32 ∷ ys) letter ∙ ap (onto_first x) (parts-append xs ys)
    ∙ onto_first-append x (slice_split (λ b. b == 32) xs) (slice_split (λ b. b == 32) ys) some
    ∙ ap (λ parts. parts ++ slice_split (λ b. b == 32) ys) (sym (slice_split-cons_no (λ b. b == 32) x xs letter)))
    (cases_Bool (x == 32))

-- a space parts the words
pub words-append : (xs ys : List ℕ) → words (xs ++ 32 ∷ ys) ≡ words xs ++ words ys
words-append xs ys =
    ap (filter is_some_text) (parts-append xs ys)
    ∙ filter-append is_some_text (slice_split (λ b. b == 32) xs) (slice_split (λ b. b == 32) ys)

-- the word `/` before a text that begins clear
words-slash : (second : List ℕ) → BeginsClear second → words (47 ∷ second) ≡ (47 ∷ []) ∷ words second
words-slash [] begins = refl
words-slash (b ∷ bs) begins =
    let space : b ≡ 32 = begins (omega arith) in
    ap (λ s. words (47 ∷ s ∷ bs)) space ∙ ap (λ s. (47 ∷ []) ∷ words (s ∷ bs)) (sym space)

-- the word `/` after a text that ends clear
words-slash_after : (front second : List ℕ) → BeginsClear second
    → words ((front ++ 32 ∷ []) ++ 47 ∷ second) ≡ words (front ++ 32 ∷ []) ++ (47 ∷ []) ∷ words second
words-slash_after front second begins =
    let without : words front ≡ words (front ++ 32 ∷ []) = sym (append-nil (words front)) ∙ sym (words-append front []) in
    ap words (append_assoc front (32 ∷ []) (47 ∷ second)) ∙ words-append front (47 ∷ second)
    ∙ ap (λ ws. words front ++ ws) (words-slash second begins) ∙ ap (λ ws. ws ++ (47 ∷ []) ∷ words second) without

space_last : (text : List ℕ) → EndsClear text → 0 < length text → text ≡ take (length text - 1) text ++ 32 ∷ []
space_last text ends some =
    let n : ℕ = length text - 1 in
    let last : drop n text ≡ 32 ∷ [] = drop-cons text n 0 (omega arith)
    ∙ (λ i. ends some i ∷ drop_of_length-le text {i = suc n} (omega arith) i) in
    sym (take-append-drop n text) ∙ ap (λ l. take n text ++ l) last

-- the words of a line that is parted
words-parted : (line first second : List ℕ) → IsPartedAt line first second → words line ≡ words first ++ (47 ∷ []) ∷ words second
words-parted line [] second (is, none, ends, begins) = ap words is ∙ words-slash second begins
words-parted line (b ∷ bs) second (is, none, ends, begins) =
    let first : b ∷ bs ≡ take (length (b ∷ bs) - 1) (b ∷ bs) ++ 32 ∷ [] = space_last (b ∷ bs) ends (omega arith) in
    ap words is ∙ ap (λ l. words (l ++ 47 ∷ second)) first ∙ words-slash_after (take (length (b ∷ bs) - 1) (b ∷ bs)) second begins
    ∙ ap (λ l. words l ++ (47 ∷ []) ∷ words second) (sym first)

-- ---- the other way round, from the words to the line: byte by byte from its end

ends_more : (b c : ℕ) (cs : List ℕ) → EndsClear (c ∷ cs) → EndsClear (b ∷ c ∷ cs)
ends_more b c cs ends = λ _.
    let longer : length (b ∷ c ∷ cs) - 1 ≡ suc (length cs) = omega arith in
    let last : length (c ∷ cs) - 1 ≡ length cs = omega arith in
    ap (λ n. get_or (b ∷ c ∷ cs) n 0) longer ∙ ap (λ n. get_or (c ∷ cs) n 0) (sym last) ∙ ends (omega arith)

ends_after_space : (first : List ℕ) → EndsClear first → EndsClear (32 ∷ first)
ends_after_space [] ends = λ _. refl
ends_after_space (c ∷ cs) ends = ends_more 32 c cs ends

ends_after_letter : (b : ℕ) (bs first second : List ℕ) → bs ≡ first ++ 47 ∷ second → get_or bs 0 0 ≢ 47 → EndsClear first
    → EndsClear (b ∷ first)
ends_after_letter b bs [] second is unlike ends = absurd (unlike (ap (λ l. get_or l 0 0) is))
ends_after_letter b bs (c ∷ cs) second is unlike ends = ends_more b c cs ends

-- a byte more at the front
parted_after : (b : ℕ) (bs first second : List ℕ) → IsPartedAt bs first second → b ≢ 47 → EndsClear (b ∷ first)
    → IsPartedAt (b ∷ bs) (b ∷ first) second
parted_after b bs first second (is, none, ends, begins) unlike clear =
    (ap (λ l. b ∷ l) is, All-cons (λ x. x ≢ 47) b first unlike none, clear, begins)

abbrev Parts : List ℕ → Type 0
Parts line = (first : List ℕ) × (second : List ℕ) × IsPartedAt line first second

-- if a word `/` stands after words without one, the line is parted there
abbrev FindsSlash : List ℕ → Type 0
FindsSlash line = (before behind : List (List ℕ)) → All NoSlash before → words line ≡ before ++ (47 ∷ []) ∷ behind → Parts line

clear_front : (text : List ℕ) → BeginsClear text → get_or text 0 0 ≢ 47
clear_front [] clear = λ same. absurd (omega arith)
clear_front (b ∷ bs) clear = λ same. omega (arith, clear (omega arith))

-- a letter that is a word by itself
finds-lone : (b : ℕ) (bs : List ℕ) → FindsSlash bs → BeginsClear bs → words (b ∷ bs) ≡ (b ∷ []) ∷ words bs → FindsSlash (b ∷ bs)
finds-lone b bs later clear first [] behind none is =
    let slash : b ≡ 47 = let both = sym first ∙ is in cc in
    ([], bs, (ap (λ x. x ∷ bs) slash, All-nil (λ x. x ≢ 47), (λ some. absurd (omega arith)), clear))
finds-lone b bs later clear first (w ∷ ws) behind none is =
    let both = sym first ∙ is in
    let word : w ≡ b ∷ [] = cc in
    let rest : words bs ≡ ws ++ (47 ∷ []) ∷ behind = cc in
    let parts : Parts bs = later ws behind (All-tail NoSlash w ws none) rest in
    let unlike : b ≢ 47 = All-head (λ x. x ≢ 47) b [] (subst NoSlash word (All-head NoSlash w ws none)) in (
      b ∷ parts.0,
      parts.1,
      parted_after b bs parts.0 parts.1 parts.2 unlike
          (ends_after_letter b bs parts.0 parts.1 parts.2.0 (clear_front bs clear) parts.2.2),
    )

-- the first words if two letters stand at the front
two_letters : (b c : ℕ) (parts : List (List ℕ))
    → (q : List ℕ) × (ws : List (List ℕ)) × (filter is_some_text (onto_first c parts) ≡ (c ∷ q) ∷ ws)
    × (filter is_some_text (onto_first b (onto_first c parts)) ≡ (b ∷ c ∷ q) ∷ ws)
two_letters b c [] = ([], [], refl, refl)
two_letters b c (p ∷ ps) = (p, filter is_some_text ps, refl, refl)

-- a letter that lengthens the first word
finds-longer : (b c : ℕ) (cs q : List ℕ) (rest : List (List ℕ)) → FindsSlash (c ∷ cs) → words (c ∷ cs) ≡ (c ∷ q) ∷ rest
    → words (b ∷ c ∷ cs) ≡ (b ∷ c ∷ q) ∷ rest → FindsSlash (b ∷ c ∷ cs)
finds-longer b c cs q rest later shorter longer [] behind none is = absurd (let both = sym longer ∙ is in cc)
finds-longer b c cs q rest later shorter longer (w ∷ ws) behind none is =
    let both = sym longer ∙ is in
    let word : w ≡ b ∷ c ∷ q = cc in
    let others : rest ≡ ws ++ (47 ∷ []) ∷ behind = cc in
    let letters : NoSlash (b ∷ c ∷ q) = subst NoSlash word (All-head NoSlash w ws none) in
    let fewer : NoSlash (c ∷ q) = All-tail (λ x. x ≢ 47) b (c ∷ q) letters in
    let parts : Parts (c ∷ cs) = later ((c ∷ q) ∷ ws) behind (All-cons NoSlash (c ∷ q) ws fewer (All-tail NoSlash w ws none))
    (shorter ∙ ap (λ l. (c ∷ q) ∷ l) others) in (
      b ∷ parts.0,
      parts.1,
      parted_after b (c ∷ cs) parts.0 parts.1 parts.2 (All-head (λ x. x ≢ 47) b (c ∷ q) letters)
          (ends_after_letter b (c ∷ cs) parts.0 parts.1 parts.2.0 (All-head (λ x. x ≢ 47) c q fewer) parts.2.2),
    )

finds-two_letters : (b c : ℕ) (cs : List ℕ) → (b == 32) ≡ false → (c == 32) ≡ false → FindsSlash (c ∷ cs) → FindsSlash (b ∷ c ∷ cs)
finds-two_letters b c cs first second later =
    let parts : List (List ℕ) = slice_split (λ x. x == 32) cs in
    let two = two_letters b c parts in
    let shorter : slice_split (λ x. x == 32) (c ∷ cs) ≡ onto_first c parts = slice_split-cons_no (λ x. x == 32) c cs second in
    let longer : slice_split (λ x. x == 32) (b ∷ c ∷ cs)
    ≡ onto_first b (onto_first c parts) = slice_split-cons_no (λ x. x == 32) b (c ∷ cs) first ∙ ap (onto_first b) shorter in
    finds-longer b c cs two.0 two.1 later (ap (filter is_some_text) shorter ∙ two.2) (ap (filter is_some_text) longer ∙ two.3)

finds-space : (bs : List ℕ) → FindsSlash bs → FindsSlash (32 ∷ bs)
finds-space bs later before behind none is =
    let parts : Parts bs = later before behind none is in
    (32 ∷ parts.0, parts.1, parted_after 32 bs parts.0 parts.1 parts.2 (omega arith) (ends_after_space parts.0 parts.2.2))

finds-letter : (b : ℕ) (bs : List ℕ) → (b == 32) ≡ false → FindsSlash bs → FindsSlash (b ∷ bs)
finds-letter b [] letter later =
    finds-lone b [] later (λ some. absurd (omega arith)) (ap (filter is_some_text) (slice_split-cons_no (λ x. x == 32) b [] letter))
finds-letter b (c ∷ cs) letter later = ⊎_elim
    (λ space.
    let cut : slice_split (λ x. x == 32) (c ∷ cs) ≡ [] ∷ slice_split (λ x. x == 32) cs = slice_split-cons_yes (λ x. x == 32) c cs space in
    let alone : words (b ∷ c ∷ cs)
    ≡ (b ∷ []) ∷ words cs = ap (filter is_some_text) (slice_split-cons_no (λ x. x == 32) b (c ∷ cs) letter ∙ ap (onto_first b) cut) in
    finds-lone b (c ∷ cs) later (λ some. eqb-true c 32 space) (alone ∙ ap (λ ws. (b ∷ []) ∷ ws) (sym (ap (filter is_some_text) cut))))
    (λ second. finds-two_letters b c cs letter second later)
    (cases_Bool (c == 32))

finds_slash : (line : List ℕ) → FindsSlash line
finds_slash [] [] behind none is = absurd cc
finds_slash [] (w ∷ ws) behind none is = absurd cc
finds_slash (b ∷ bs) before behind none is = ⊎_elim
    (λ space. subst FindsSlash (ap (λ s. s ∷ bs) (sym (eqb-true b 32 space))) (finds-space bs (finds_slash bs)) before behind none is)
    (λ letter. finds-letter b bs letter (finds_slash bs) before behind none is)
    (cases_Bool (b == 32))

-- no word `/` stands after words without one
abbrev pub LacksSlash : List ℕ → Type 0
LacksSlash line = (before behind : List (List ℕ)) → All NoSlash before → words line ≢ before ++ (47 ∷ []) ∷ behind

-- `split_once` finds no `/` at all
pub lacks_slash : (line : List ℕ) → IsSplitOnceResult 47 line None → LacksSlash line
lacks_slash line result before behind none is =
    let parts : Parts line = finds_slash line before behind none is in
    split_after 47 line parts.0 parts.1 None result (lit< tt) parts.2.0 (λ i h. parts.2.1 i 0 h)

-- the first `/` that it finds is part of a longer word
pub lacks_lone_slash : (line : List ℕ) (sides : Bor (List ℕ) × Bor (List ℕ)) → IsSplitOnceResult 47 line (Some sides)
    → (EndsClear sides.0.now → BeginsClear sides.1.now → ⊥) → LacksSlash line
lacks_lone_slash line sides result joined before behind none is =
    let parts : Parts line = finds_slash line before behind none is in
    let same : (sides.0.now ≡ parts.0)
    × (sides.1.now ≡ parts.1) = split_after 47 line parts.0 parts.1 (Some sides) result (lit< tt) parts.2.0 (λ i h. parts.2.1 i 0 h) in
    joined (subst EndsClear (sym same.0) parts.2.2) (subst BeginsClear (sym same.1) parts.2.3)

-- the first `/` that it finds is a word
pub has_lone_slash : (line : List ℕ) (sides : Bor (List ℕ) × Bor (List ℕ)) → IsSplitOnceResult 47 line (Some sides) → EndsClear sides.0.now
    → BeginsClear sides.1.now → (words line ≡ words sides.0.now ++ (47 ∷ []) ∷ words sides.1.now) × NoSlash sides.0.now
has_lone_slash line sides result ends begins =
    let cut = split_parts 47 line (Some sides) result (lit< tt) in
    let none : NoSlash sides.0.now = All-from_get_or (λ b. b ≢ 47) sides.0.now 0 cut.1 in
    (words-parted line sides.0.now sides.1.now (cut.0, none, ends, begins), none)
