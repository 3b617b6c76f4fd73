-- What a pattern leaves to match once a character has been read. The results are kept simple, so that a pattern has few of them.
use Rattle.std.specs.Prelude.{ℕ, ◌==◌, ◌&&◌, ◌||◌, Bool, true, false, if◌then◌else◌, List, [], ◌∷◌}
use Rattle.syllables.specs.Pattern.{Pattern, Nothing, Empty, One, Then, Or, Star, is_in}

-- the pattern matches the empty text
abbrev pub nullable : Pattern → Bool
nullable Nothing = false
nullable Empty = true
nullable (One set) = false
nullable (Then p q) = nullable p && nullable q
nullable (Or p q) = nullable p || nullable q
nullable (Star p) = true

abbrev pub same_set : List ℕ → List ℕ → Bool
same_set [] [] = true
same_set (x ∷ xs) (y ∷ ys) = (x == y) && same_set xs ys
same_set _ _ = false

-- both are written alike
abbrev pub same : Pattern → Pattern → Bool
same Nothing Nothing = true
same Empty Empty = true
same (One s) (One t) = same_set s t
same (Then a b) (Then c d) = same a c && same b d
same (Or a b) (Or c d) = same a c && same b d
same (Star a) (Star b) = same a b
same _ _ = false

-- p is one of the alternatives of a pattern
abbrev pub offers : Pattern → Pattern → Bool
offers p (Or a b) = offers p a || offers p b
offers p q = same p q

abbrev pub is_nothing : Pattern → Bool
is_nothing Nothing = true
is_nothing _ = false

-- `Or`, without Nothing and without what is there already
abbrev pub add : Pattern → Pattern → Pattern
add p q = if is_nothing q then p else (if offers p q then q else Or p q)

abbrev pub either : Pattern → Pattern → Pattern
either Nothing q = q
either (Or a b) q = either a (either b q)
either p q = add p q

-- `Then`, to the right, and after each alternative
abbrev pub seq : Pattern → Pattern → Pattern
seq Nothing q = Nothing
seq Empty q = q
seq (Then a b) q = Then a (seq b q)
seq (Or a b) q = either (seq a q) (seq b q)
seq p q = Then p q

-- what a pattern leaves to match behind a character
abbrev pub deriv : ℕ → Pattern → Pattern
deriv c Nothing = Nothing
deriv c Empty = Nothing
deriv c (One set) = if is_in c set then Empty else Nothing
deriv c (Then p q) = if nullable p then either (seq (deriv c p) q) (deriv c q) else seq (deriv c p) q
deriv c (Or p q) = either (deriv c p) (deriv c q)
deriv c (Star p) = seq (deriv c p) (Star p)
