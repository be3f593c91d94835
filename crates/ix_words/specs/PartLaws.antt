-- Parting and joining undo one another.
use Rattle.std.proofs.Common.{◌≡◌, ◌≢◌, ℕ, ◌<◌, ◌≤◌, List, [], ◌∷◌, ◌++◌, length, refl, ap, ◌∙◌, arith, Bool, true, false}
use Rattle.std.specs.Prelude.{if◌then◌else◌, ◌==◌, ◌&&◌, not, nat_lt}
use Rattle.std.proofs.lemmas.Bool.Decides.{nat_tests}
use Rattle.std.proofs.lemmas.Bool.{cond_both, and_parts, and_from, not-true, not_from_false, eq-eqb, ne_eqb, lt-ltb}
use Rattle.ix_words.specs.Parts.{push_front, parts, join, lacks, all_lack}

-- a part with one more element at its front is joined with it at the front
join-push_front : (mark b : ℕ) (ps : List (List ℕ)) → join mark (push_front b ps) ≡ b ∷ join mark ps
join-push_front mark b [] = refl
join-push_front mark b (p ∷ []) = refl
join-push_front mark b (p ∷ q ∷ ps) = refl

join-empty : (mark : ℕ) (bs : List ℕ) → join mark ([] ∷ parts mark bs) ≡ mark ∷ join mark (parts mark bs)
join-empty mark bs = some (parts mark bs) (parts_some mark bs) where
  some : (ps : List (List ℕ)) → 0 < length ps → join mark ([] ∷ ps) ≡ mark ∷ join mark ps
  some [] h = absurd (omega arith)
  some (p ∷ ps) h = refl

  pushed_some : (b : ℕ) (ps : List (List ℕ)) → 0 < length (push_front b ps)
  pushed_some b [] = omega arith
  pushed_some b (p ∷ ps) = omega arith

  chosen_some : (t : Bool) (x y : List (List ℕ)) → 0 < length x → 0 < length y → 0 < length (if t then x else y)
  chosen_some true x y h k = h
  chosen_some false x y h k = k

  parts_some : (mark : ℕ) (bs : List ℕ) → 0 < length (parts mark bs)
  parts_some mark [] = omega arith
  parts_some mark (b ∷ bs) = chosen_some (b == mark) _ _ (omega arith) (pushed_some b (parts mark bs))

pub join-parts : (mark : ℕ) (bs : List ℕ) → join mark (parts mark bs) ≡ bs
join-parts mark [] = refl
join-parts mark (b ∷ bs) =
    let more = join-parts mark bs in
    cond_both (b == mark) ([] ∷ parts mark bs) (push_front b (parts mark bs)) (λ r. join mark r ≡ b ∷ bs)
    (λ e. join-empty mark bs ∙ (let s : mark ≡ b = grind (arith, nat_tests) in cc (s, more)))
    (λ e. join-push_front mark b (parts mark bs) ∙ ap (λ r. b ∷ r) more)

-- a list that lacks the mark is one part
parts-lacking : (mark : ℕ) (w : List ℕ) → lacks mark w ≡ true → parts mark w ≡ w ∷ []
parts-lacking mark [] h = refl
parts-lacking mark (b ∷ bs) h =
    let both = and_parts (not (b == mark)) (lacks mark bs) h in
    rw (not-true (b == mark) both.0, parts-lacking mark bs both.1) refl

-- the first part ends at the first mark
pub parts-mark : (mark : ℕ) (w rest : List ℕ) → lacks mark w ≡ true → parts mark (w ++ mark ∷ rest) ≡ w ∷ parts mark rest
parts-mark mark [] rest h = rw (eq-eqb mark mark refl) refl
parts-mark mark (b ∷ bs) rest h =
    let both = and_parts (not (b == mark)) (lacks mark bs) h in
    rw (not-true (b == mark) both.0, parts-mark mark bs rest both.1) refl

pub parts-join : (mark : ℕ) (w : List ℕ) (ws : List (List ℕ)) → all_lack mark (w ∷ ws) ≡ true → parts mark (join mark (w ∷ ws)) ≡ w ∷ ws
parts-join mark w [] h = parts-lacking mark w (and_parts (lacks mark w) true h).0
parts-join mark w (v ∷ ws) h =
    let both = and_parts (lacks mark w) (all_lack mark (v ∷ ws)) h in
    parts-mark mark w (join mark (v ∷ ws)) both.0 ∙ ap (λ r. w ∷ r) (parts-join mark v ws both.1)

-- ---- words without blanks and control bytes: each byte is above the blank
abbrev pub is_plain : List ℕ → Bool
is_plain [] = true
is_plain (b ∷ bs) = nat_lt 32 b && is_plain bs

abbrev pub all_plain : List (List ℕ) → Bool
all_plain [] = true
all_plain (w ∷ ws) = is_plain w && all_plain ws

-- such a word has neither a blank nor a line feed in it
pub lacks-plain : (mark : ℕ) (w : List ℕ) → mark ≤ 32 → is_plain w ≡ true → lacks mark w ≡ true
lacks-plain mark [] h e = refl
lacks-plain mark (b ∷ bs) h e =
    let both = and_parts (nat_lt 32 b) (is_plain bs) e in
    and_from (not (b == mark)) (lacks mark bs) (grind (arith, nat_tests, both.0)) (lacks-plain mark bs h both.1)

pub all_lack-plain : (mark : ℕ) (ws : List (List ℕ)) → mark ≤ 32 → all_plain ws ≡ true → all_lack mark ws ≡ true
all_lack-plain mark [] h e = refl
all_lack-plain mark (w ∷ ws) h e =
    let both = and_parts (is_plain w) (all_plain ws) e in
    and_from (lacks mark w) (all_lack mark ws) (lacks-plain mark w h both.0) (all_lack-plain mark ws h both.1)

plain-append : (xs ys : List ℕ) → is_plain xs ≡ true → is_plain ys ≡ true → is_plain (xs ++ ys) ≡ true
plain-append [] ys h k = k
plain-append (x ∷ xs) ys h k =
    let both = and_parts (nat_lt 32 x) (is_plain xs) h in
    and_from (nat_lt 32 x) (is_plain (xs ++ ys)) both.0 (plain-append xs ys both.1 k)

pub plain-join : (inner : ℕ) (ws : List (List ℕ)) → 32 < inner → all_plain ws ≡ true → is_plain (join inner ws) ≡ true
plain-join inner [] n h = refl
plain-join inner (w ∷ []) n h = (and_parts (is_plain w) true h).0
plain-join inner (w ∷ v ∷ ws) n h =
    let both = and_parts (is_plain w) (all_plain (v ∷ ws)) h in
    plain-append w (inner ∷ join inner (v ∷ ws)) both.0
    (and_from (nat_lt 32 inner) (is_plain (join inner (v ∷ ws))) (lt-ltb 32 inner n) (plain-join inner (v ∷ ws) n both.1))

lacks-append : (mark : ℕ) (xs ys : List ℕ) → lacks mark xs ≡ true → lacks mark ys ≡ true → lacks mark (xs ++ ys) ≡ true
lacks-append mark [] ys h k = k
lacks-append mark (x ∷ xs) ys h k =
    let both = and_parts (not (x == mark)) (lacks mark xs) h in
    and_from (not (x == mark)) (lacks mark (xs ++ ys)) both.0 (lacks-append mark xs ys both.1 k)

pub lacks-join : (mark inner : ℕ) (ws : List (List ℕ)) → inner ≢ mark → all_lack mark ws ≡ true → lacks mark (join inner ws) ≡ true
lacks-join mark inner [] n h = refl
lacks-join mark inner (w ∷ []) n h = (and_parts (lacks mark w) true h).0
lacks-join mark inner (w ∷ v ∷ ws) n h =
    let both = and_parts (lacks mark w) (all_lack mark (v ∷ ws)) h in
    lacks-append mark w (inner ∷ join inner (v ∷ ws)) both.0
    (and_from (not (inner == mark)) (lacks mark (join inner (v ∷ ws))) (not_from_false (inner == mark) (ne_eqb inner mark n)) (lacks-join mark inner (v ∷ ws) n both.1))
