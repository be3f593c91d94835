-- Text in pieces.
use Rattle.std.proofs.Common.{◌≡◌, ℕ, List, [], ◌∷◌, ◌++◌, refl, ap, sym, ◌∙◌, append_assoc}
use Rattle.std.proofs.lemmas.List.Concat.{flat_map-append}
use Rattle.ix_lines.specs.declared.line.Line.{Line}
use Rattle.ix_lines.specs.Words.{line_text, text_of}

pub text-append : (xs ys : List Line) → text_of (xs ++ ys) ≡ text_of xs ++ text_of ys
text-append xs ys = flat_map-append (λ l. line_text l ++ 10 ∷ []) xs ys

pub ruleset text_steps = (text-append)

-- a piece more, and what is left
pub text_piece : (old : List ℕ) (l : Line) (ls : List Line) → (old ++ text_of (l ∷ [])) ++ text_of ls ≡ old ++ text_of (l ∷ ls)
text_piece old l ls = append_assoc old (text_of (l ∷ [])) (text_of ls) ∙ ap (λ r. old ++ r) (sym (text-append (l ∷ []) ls))

pub text_pieces : (old : List ℕ) (l : Line) (ks ls : List Line) → ((old ++ text_of (l ∷ [])) ++ text_of ks) ++ text_of ls ≡ old ++ text_of (l ∷ ks ++ ls)
text_pieces old l ks ls =
    append_assoc (old ++ text_of (l ∷ [])) (text_of ks) (text_of ls) ∙ ap (λ r. (old ++ text_of (l ∷ [])) ++ r) (sym (text-append ks ls)) ∙ text_piece old l (ks ++ ls)

pub ruleset entry_steps = (text_piece, text_pieces)

-- a connection whole, and what is left
pub conn_piece : (old : List ℕ) (o a b : Line) (is ls : List Line) → (old ++ text_of (o ∷ is ++ a ∷ b ∷ [])) ++ text_of ls ≡ old ++ text_of (o ∷ is ++ a ∷ b ∷ ls)
conn_piece old o a b is ls =
    append_assoc old (text_of (o ∷ is ++ a ∷ b ∷ [])) (text_of ls)
    ∙ ap (λ r. old ++ r) (sym (text-append (o ∷ is ++ a ∷ b ∷ []) ls) ∙ ap text_of (append_assoc (o ∷ is) (a ∷ b ∷ []) ls))

pub ruleset conn_steps = (conn_piece)

pub conn_pieces : (old : List ℕ) (o a b : Line) (is : List Line)
    → (((old ++ text_of (o ∷ [])) ++ text_of is) ++ text_of (a ∷ [])) ++ text_of (b ∷ []) ≡ old ++ text_of (o ∷ is ++ a ∷ b ∷ [])
conn_pieces old o a b is =
    text_piece ((old ++ text_of (o ∷ [])) ++ text_of is) a (b ∷ []) ∙ text_pieces old o is (a ∷ b ∷ [])

-- the settle before the first entry, the connects and the entries
pub front_pieces : (old : List ℕ) (o : Line) (s c e : List Line)
    → (((old ++ text_of (o ∷ [])) ++ text_of s) ++ text_of c) ++ text_of e ≡ old ++ text_of (o ∷ s ++ c ++ e)
front_pieces old o s c e =
    ap (λ r. r ++ text_of e) (text_pieces old o s c) ∙ append_assoc old (text_of (o ∷ s ++ c)) (text_of e) ∙ ap (λ r. old ++ r) (sym (text-append (o ∷ s ++ c) e))

pub no_front : (old : List ℕ) (c e : List Line) → (old ++ text_of c) ++ text_of e ≡ old ++ text_of ([] ++ c ++ e)
no_front old c e = append_assoc old (text_of c) (text_of e) ∙ ap (λ r. old ++ r) (sym (text-append c e))

pub ruleset front_steps = (front_pieces, no_front)

pub whole : (h z : Line) (f s n k : List Line)
    → ((((([] ++ text_of (h ∷ [])) ++ text_of f) ++ text_of s) ++ text_of n) ++ text_of k) ++ text_of (z ∷ [])
    ≡ text_of (((((h ∷ f) ++ s) ++ n) ++ k) ++ z ∷ [])
whole h z f s n k = rw (
  text-append ((((h ∷ f) ++ s) ++ n) ++ k) (z ∷ []),
  text-append (((h ∷ f) ++ s) ++ n) k,
  text-append ((h ∷ f) ++ s) n,
  text-append (h ∷ f) s,
  ← text_piece [] h f,
) refl
