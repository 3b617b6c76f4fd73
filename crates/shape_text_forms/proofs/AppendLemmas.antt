-- texts that are appended one after the other
use Rattle.std.proofs.Common.{◌≡◌, ℕ, List, ◌++◌, refl, append_assoc}

-- five texts after an opener
pub appended_six : (o a b c d e f : List ℕ) {m1 m2 m3 m4 m5 m6 : List ℕ}
    → m1 ≡ o ++ a → m2 ≡ m1 ++ b → m3 ≡ m2 ++ c → m4 ≡ m3 ++ d → m5 ≡ m4 ++ e → m6 ≡ m5 ++ f
    → m6 ≡ o ++ (a ++ b ++ c ++ d ++ e ++ f)
appended_six o a b c d e f h1 h2 h3 h4 h5 h6 = rw (h6, h5, h4, h3, h2, h1) (simp append_assoc refl)

-- seven texts after an opener
pub appended_seven : (o a b c d e f g : List ℕ) {m1 m2 m3 m4 m5 m6 m7 : List ℕ}
    → m1 ≡ o ++ a → m2 ≡ m1 ++ b → m3 ≡ m2 ++ c → m4 ≡ m3 ++ d → m5 ≡ m4 ++ e → m6 ≡ m5 ++ f → m7 ≡ m6 ++ g
    → m7 ≡ o ++ (a ++ b ++ c ++ d ++ e ++ f ++ g)
appended_seven o a b c d e f g h1 h2 h3 h4 h5 h6 h7 = rw (h7, h6, h5, h4, h3, h2, h1) (simp append_assoc refl)
