-- What the first word of a line says, and which lines are comments.
use Rattle.std.proofs.Common.{◌≡◌, ℕ, true, false, List, [], ◌∷◌, Ok, refl, inl, inr}
use Rattle.std.specs.Prelude.{codes}
use Rattle.std.specs.Str.{bytes_eq}
use Rattle.std.proofs.lemmas.Bool.{cases_Bool}
use Rattle.ply_text.specs.Words.{keyword_of}
use Rattle.ply_text.specs.Declarations.{keyword_at}
use Rattle.ply_text.specs.Comments.{is_form}
use Rattle.ply_text.specs.Draft.{Draft, comment, body, statement}
use Rattle.laws_text.specs.HeaderShape.{Line, is_comment, has_form}

abbrev pub IsNot : List ℕ → List ℕ → Type 0
IsNot word text = bytes_eq word text ≡ false

abbrev pub IsWord : List ℕ → List ℕ → Type 0
IsWord word text = bytes_eq word text ≡ true

-- a word is one of the five, or none of them
pub keyword_cases : (word : List ℕ) (P : Type 0)
    → (IsWord word (codes "comment") → P)
    → (IsNot word (codes "comment") → IsWord word (codes "obj_info") → P)
    → (IsNot word (codes "comment") → IsNot word (codes "obj_info") → IsWord word (codes "element") → P)
    → (IsNot word (codes "comment") → IsNot word (codes "obj_info") → IsNot word (codes "element") → IsWord word (codes "property") → P)
    → (IsNot word (codes "comment") → IsNot word (codes "obj_info") → IsNot word (codes "element") → IsNot word (codes "property") → IsWord word (codes "end_header") → P)
    → (IsNot word (codes "comment") → IsNot word (codes "obj_info") → IsNot word (codes "element") → IsNot word (codes "property") → IsNot word (codes "end_header") → P) → P
keyword_cases word P f g h i j k = elim (cases_Bool (bytes_eq word (codes "comment"))) [
  | inl c ↦ f c
  | inr c ↦ elim (cases_Bool (bytes_eq word (codes "obj_info"))) [
    | inl o ↦ g c o
    | inr o ↦ elim (cases_Bool (bytes_eq word (codes "element"))) [
      | inl e ↦ h c o e
      | inr e ↦ elim (cases_Bool (bytes_eq word (codes "property"))) [
        | inl p ↦ i c o e p
        | inr p ↦ elim (cases_Bool (bytes_eq word (codes "end_header"))) [ inl q ↦ j c o e p q | inr q ↦ k c o e p q ]
      ]
    ]
  ]
]

-- another comment's word describes nothing
pub other_word : (form word : List ℕ) (ts : Line) → IsNot word (codes "comment") → has_form form (word ∷ ts) ≡ false
other_word form word [] w = refl
other_word form word (a ∷ []) w = refl
other_word form word (a ∷ b ∷ ts) w = rw w refl

-- a comment's describes what its form says
pub comment_word : (form word : List ℕ) (ts : Line) → IsWord word (codes "comment") → has_form form (word ∷ ts) ≡ is_form form (word ∷ ts)
unfolding is_form
comment_word form word [] w = refl
comment_word form word (a ∷ []) w = refl
comment_word form word (a ∷ b ∷ ts) w = rw w refl

-- a line that goes on is a comment, or another line
pub statement_parts : (profile at : ℕ) (d d' : Draft) (line : Line) (P : Type 0) → statement profile at d line ≡ Ok d'
    → (is_comment line ≡ true → ((form : List ℕ) → has_form form line ≡ is_form form line) → comment profile at d line ≡ Ok d' → P)
    → (is_comment line ≡ true → ((form : List ℕ) → has_form form line ≡ false) → d ≡ d' → P)
    → (is_comment line ≡ false → body at d line (keyword_at line) ≡ Ok d' → P) → P
unfolding statement keyword_of
statement_parts profile at d d' [] P e f g h = h refl e
statement_parts profile at d d' (word ∷ tokens) P e f g h =
    keyword_cases word P
    (λ c. f (rw c refl) (λ form. comment_word form word tokens c) (rw c at e))
    (λ c o. g (rw (c, o) refl) (λ form. other_word form word tokens c) (let s = rw (c, o) at e in cc))
    (λ c o x. h (rw (c, o) refl) (rw (c, o, x) (rw (c, o, x) at e)))
    (λ c o x p. h (rw (c, o) refl) (rw (c, o, x, p) (rw (c, o, x, p) at e)))
    (λ c o x p q. h (rw (c, o) refl) (rw (c, o, x, p, q) (rw (c, o, x, p, q) at e)))
    (λ c o x p q. h (rw (c, o) refl) (rw (c, o, x, p, q) (rw (c, o, x, p, q) at e)))
