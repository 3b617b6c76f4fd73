-- texts in HTML are read back
use Rattle.std.proofs.Common.{ℕ, List, [], ◌∷◌, ◌++◌, ◌≡◌, inl, inr, refl, sym, append_assoc, subst, map, true, false, cond, ◌==◌}
use Rattle.std.proofs.lemmas.Bool.Decides.{eqb_tells}
use Rattle.std.proofs.lemmas.List.{flat_map_more}
use Rattle.std.proofs.lemmas.Str.{encodes-append}
use Rattle.std.specs.Str.{encode_utf8_all}
use Rattle.glyph_pictures.specs.Html.{html_of, written, shown, is_special, is_placeless, Reads, ReadsBack}
use Rattle.glyph_pictures.specs.Html.Reads.{ends, quote, ampersand, apostrophe, less, greater, other}

-- what is written for a character is read as what is shown of it
abbrev IsRead : List ℕ → List ℕ → ℕ → Type 0
IsRead html text c = Reads (written c ++ html) (shown c ∷ text)

reads_other : (c : ℕ) (html text : List ℕ) → Reads html text → (c == 34) ≡ false → (c == 38) ≡ false → (c == 39) ≡ false
    → (c == 60) ≡ false → (c == 62) ≡ false → IsRead html text c
reads_other c html text r h1 h2 h3 h4 h5 =
    let plain : is_special c ≡ false = rw (h1, h2, h3, h4, h5) in
    rw (h1, h2, h3, h4, h5)
    (elim (is_placeless c) as (λ v. Reads (cond v 0xFFFD c ∷ html) (cond v 0xFFFD c ∷ text))
    [ true ↦ other 0xFFFD refl r | false ↦ other c plain r ])

reads_written : (c : ℕ) (html text : List ℕ) → Reads html text → IsRead html text c
reads_written c html text r =
    let at : (d : ℕ) → c ≡ d → IsRead html text d → IsRead html text c = λ d e h. subst (λ (x : ℕ). IsRead html text x) (sym e) h in
    elim (eqb_tells c 34) as (λ _. IsRead html text c) [
      | inl h ↦ at 34 h.1 (quote r)
      | inr h1 ↦
          elim (eqb_tells c 38) as (λ _. IsRead html text c) [
            | inl h ↦ at 38 h.1 (ampersand r)
            | inr h2 ↦
                elim (eqb_tells c 39) as (λ _. IsRead html text c) [
                  | inl h ↦ at 39 h.1 (apostrophe r)
                  | inr h3 ↦
                      elim (eqb_tells c 60) as (λ _. IsRead html text c) [
                        | inl h ↦ at 60 h.1 (less r)
                        | inr h4 ↦
                            elim (eqb_tells c 62) as (λ _. IsRead html text c) [
                              | inl h ↦ at 62 h.1 (greater r)
                              | inr h5 ↦
                                  reads_other c html text r h1.0 h2.0 h3.0 h4.0 h5.0
                            ]
                      ]
                ]
          ]
    ]

pub reads_back : ReadsBack
reads_back [] = ends
reads_back (c ∷ text) = reads_written c (html_of text) (map shown text) (reads_back text)

-- one more character of a text
pub html_step : (old out new text : List ℕ) (c : ℕ) → out ≡ old ++ encode_utf8_all (html_of text)
    → new ≡ out ++ encode_utf8_all (written c) → new ≡ old ++ encode_utf8_all (html_of (text ++ c ∷ []))
html_step old out new text c e f =
    let more = flat_map_more written [] text c in
    let joined = encodes-append (html_of text) (written c) in
    let regrouped = append_assoc old (encode_utf8_all (html_of text)) (encode_utf8_all (written c)) in
    cc
