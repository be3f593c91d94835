-- What is left of a line's words.
use Rattle.std.proofs.Common.{◌≡◌, ℕ, zero, suc, ◌+◌, ◌*◌, ◌/◌, ◌%◌, ◌^◌, ◌<◌, ◌≤◌, List, [], ◌∷◌, ◌++◌, refl, ap, sym, ◌∙◌, arith, lit<, Bool, true, false, Option, Some, None}
use Rattle.std.specs.Prelude.{if◌then◌else◌, ◌==◌, nat_lt}
use Rattle.std.specs.Str.{bytes_eq}
use Rattle.std.specs.Fmt.{decimal}
use Rattle.std.proofs.lemmas.Bool.{cond_both, and_from, and_parts, lt-ltb}
use Rattle.std.proofs.lemmas.Bool.Decides.{nat_tests}
use Rattle.std.proofs.lemmas.Option.{same_Some}
use Rattle.std.proofs.lemmas.Slice.Eq.{bytes_eq-Decides}
use Rattle.ix_words.specs.Parts.{push_front, parts, join, lacks, all_lack}
use Rattle.ix_words.specs.Numbers.{number_of, hex, glyph, hex8}
use Rattle.ix_words.specs.Fields.{◌>>=◌, behind_word, with_rest, field_of, named_field, ended, at_end, dotted, four_of, dotted_of, place, two_of, place_of}
use Rattle.ix_words.specs.PartLaws.{join-parts, parts-join, is_plain, plain-join}
use Rattle.ix_words.specs.NumberLaws.{number_of-takes, number_of-again, lacks-decimal, plain-decimal}

-- a text has a part
pub none_ended : (mark : ℕ) (bs : List ℕ) → ended (parts mark bs) ≡ None
none_ended mark [] = refl
none_ended mark (b ∷ bs) = some (b == mark) (parts mark bs) where
  some : (t : Bool) (ps : List (List ℕ)) → ended (if t then [] ∷ ps else push_front b ps) ≡ None
  some true ps = refl
  some false [] = refl
  some false (p ∷ ps) = refl

-- ---- what is read is written so: each step of a chain gives the next
pub word_then : {A P : Type 0} (k : List ℕ) (ws : List (List ℕ)) (f : List (List ℕ) → Option A) (x : A) → behind_word k ws >>= f ≡ Some x
    → ((rest : List (List ℕ)) → ws ≡ k ∷ rest → f rest ≡ Some x → P) → P
word_then k [] f x e go = absurd (cc)
word_then {P = P} k (w ∷ ws) f x e go =
    cond_both (bytes_eq w k) (Some ws) None (λ r. r >>= f ≡ Some x → P)
    (λ t g. go ws (let s : w ≡ k = (bytes_eq-Decides w k).0 t in ap (λ v. v ∷ ws) s) g)
    (λ t g. absurd (cc)) e

pub field_then : {A B P : Type 0} (read : List ℕ → Option B) (ws : List (List ℕ)) (f : B × List (List ℕ) → Option A) (x : A) → field_of read ws >>= f ≡ Some x
    → ((b : B) (w : List ℕ) (rest : List (List ℕ)) → ws ≡ w ∷ rest → read w ≡ Some b → f (b, rest) ≡ Some x → P) → P
field_then read [] f x e go = absurd (cc)
field_then {B = B} {P = P} read (w ∷ ws) f x e go = by_read (read w) refl e where
  by_read : (o : Option B) → read w ≡ o → with_rest ws o >>= f ≡ Some x → P
  by_read None p g = absurd (cc)
  by_read (Some b) p g = go b w ws refl p g

pub number_then : {A P : Type 0} (high : ℕ) (ws : List (List ℕ)) (f : ℕ × List (List ℕ) → Option A) (x : A) → high < 2 ^ 64 → field_of (number_of high) ws >>= f ≡ Some x
    → ((n : ℕ) (rest : List (List ℕ)) → ws ≡ decimal n ∷ rest → n ≤ high → f (n, rest) ≡ Some x → P) → P
number_then high ws f x small e go = field_then (number_of high) ws f x e (λ n w rest is r g.
    let t = number_of-takes high n w small r in go n rest (is ∙ ap (λ v. v ∷ rest) t.0) t.1 g)

-- a word behind its name
pub named_then : {A B P : Type 0} (name : List ℕ) (read : List ℕ → Option B) (ws : List (List ℕ)) (f : B × List (List ℕ) → Option A) (x : A)
    → named_field name read ws >>= f ≡ Some x
    → ((b : B) (w : List ℕ) (rest : List (List ℕ)) → ws ≡ name ∷ w ∷ rest → read w ≡ Some b → f (b, rest) ≡ Some x → P) → P
named_then {P = P} name read ws f x e go = by_word (behind_word name ws) refl e where
  by_word : (o : Option (List (List ℕ))) → behind_word name ws ≡ o → (o >>= field_of read) >>= f ≡ Some x → P
  by_word None p g = absurd (cc)
  by_word (Some behind) p g =
      word_then name ws (λ r. Some r) behind (ap (λ o. o >>= (λ r. Some r)) p) (λ rest is same.
      field_then read behind f x g (λ b w more at r h. go b w more (is ∙ ap (λ r. name ∷ r) (same_Some rest behind same ∙ at)) r h))

pub named_number_then : {A P : Type 0} (name : List ℕ) (high : ℕ) (ws : List (List ℕ)) (f : ℕ × List (List ℕ) → Option A) (x : A) → high < 2 ^ 64
    → named_field name (number_of high) ws >>= f ≡ Some x
    → ((n : ℕ) (rest : List (List ℕ)) → ws ≡ name ∷ decimal n ∷ rest → n ≤ high → f (n, rest) ≡ Some x → P) → P
named_number_then name high ws f x small e go = named_then name (number_of high) ws f x e (λ n w rest is r g.
    let t = number_of-takes high n w small r in go n rest (is ∙ ap (λ v. name ∷ v ∷ rest) t.0) t.1 g)

pub end_then : {A P : Type 0} (ws : List (List ℕ)) (y x : A) → at_end ws y ≡ Some x → (ws ≡ [] → y ≡ x → P) → P
end_then [] y x e go = go refl (same_Some y x e)
end_then (w ∷ ws) y x e go = absurd (cc)

-- ---- addresses
four_takes : (ws : List (List ℕ)) (n : ℕ) → four_of ws ≡ Some n
    → (ws ≡ decimal (n / 16777216) ∷ decimal (n / 65536 % 256) ∷ decimal (n / 256 % 256) ∷ decimal (n % 256) ∷ []) × (n < 2 ^ 32)
unfolding four_of
four_takes ws n e =
    number_then 255 ws _ n (omega arith) e (λ a r p h f. number_then 255 r _ n (omega arith) f (λ b s q i g. number_then 255 s _ n (omega arith) g (λ c t u j k.
    number_then 255 t _ n (omega arith) k (λ d v w l m. end_then v (16777216 * a + 65536 * b + 256 * c + d) n m (λ z y.
    let aa : n / 16777216 ≡ a = omega arith in
    let bb : n / 65536 % 256 ≡ b = omega arith in
    let cc' : n / 256 % 256 ≡ c = omega arith in
    let dd : n % 256 ≡ d = omega arith in
    (rw (aa, bb, cc', dd) (cc), omega arith))))))

-- what a four of numbers is joined from
pub dotted_of-takes : (n : ℕ) (w : List ℕ) → dotted_of w ≡ Some n → (w ≡ dotted n) × (n < 2 ^ 32)
unfolding dotted
dotted_of-takes n w e = let t = four_takes (parts 46 w) n e in (sym (join-parts 46 w) ∙ ap (join 46) t.0, t.1)

pub dotted_of-again : (n : ℕ) → n < 2 ^ 32 → dotted_of (dotted n) ≡ Some n
unfolding dotted four_of
dotted_of-again n h =
    let a : n / 16777216 ≤ 255 = omega arith in
    let b : n / 65536 % 256 ≤ 255 = omega arith in
    let c : n / 256 % 256 ≤ 255 = omega arith in
    let d : n % 256 ≤ 255 = omega arith in
    let s : 255 < 2 ^ 64 = omega arith in
    let m : 46 < 48 = omega arith in
    rw (
      parts-join 46 (decimal (n / 16777216)) (decimal (n / 65536 % 256) ∷ decimal (n / 256 % 256) ∷ decimal (n % 256) ∷ [])
          (and_from (lacks 46 (decimal (n / 16777216))) (all_lack 46 (decimal (n / 65536 % 256) ∷ decimal (n / 256 % 256) ∷ decimal (n % 256) ∷ [])) (lacks-decimal 46 (n / 16777216) m (omega arith))
          (and_from (lacks 46 (decimal (n / 65536 % 256))) (all_lack 46 (decimal (n / 256 % 256) ∷ decimal (n % 256) ∷ [])) (lacks-decimal 46 (n / 65536 % 256) m (omega arith))
          (and_from (lacks 46 (decimal (n / 256 % 256))) (all_lack 46 (decimal (n % 256) ∷ [])) (lacks-decimal 46 (n / 256 % 256) m (omega arith))
          (and_from (lacks 46 (decimal (n % 256))) true (lacks-decimal 46 (n % 256) m (omega arith)) refl)))),
      number_of-again 255 (n / 16777216) s a,
      number_of-again 255 (n / 65536 % 256) s b,
      number_of-again 255 (n / 256 % 256) s c,
      number_of-again 255 (n % 256) s d,
    )
    (let e : 16777216 * (n / 16777216) + 65536 * (n / 65536 % 256) + 256 * (n / 256 % 256) + n % 256 ≡ n = omega arith in ap Some e)

pub place_of-takes : (high low : ℕ) (p : ℕ × ℕ) (w : List ℕ) → high < 2 ^ 64 → low < 2 ^ 64 → place_of high low w ≡ Some p → (w ≡ place p) × (p.0 ≤ high) × (p.1 ≤ low)
unfolding place two_of
place_of-takes high low p w h l e =
    number_then high (parts 46 w) _ p h e (λ a r q i f. number_then low r _ p l f (λ b s t j g. end_then s (a, b) p g (λ z y. (
      sym (join-parts 46 w) ∙ ap (join 46) (let k : r ≡ decimal b ∷ [] = cc in q ∙ ap (λ v. decimal a ∷ v) k) ∙ ap (λ x. join 46 (decimal x.0 ∷ decimal x.1 ∷ [])) y,
      (let k : a ≡ p.0 = ap (λ x. x.0) y in omega arith),
      (let k : b ≡ p.1 = ap (λ x. x.1) y in omega arith),
    ))))

pub place_of-again : (high low a b : ℕ) → high < 2 ^ 64 → low < 2 ^ 64 → a ≤ high → b ≤ low → place_of high low (place (a, b)) ≡ Some (a, b)
unfolding place two_of
place_of-again high low a b h l i j =
    let m : 46 < 48 = omega arith in
    rw (
      parts-join 46 (decimal a) (decimal b ∷ [])
          (and_from (lacks 46 (decimal a)) (all_lack 46 (decimal b ∷ [])) (lacks-decimal 46 a m (omega arith))
          (and_from (lacks 46 (decimal b)) true (lacks-decimal 46 b m (omega arith)) refl)),
      number_of-again high a h i,
      number_of-again low b l j,
    ) refl

-- ---- each such word is plain
pub plain-dotted : (n : ℕ) → n < 2 ^ 32 → is_plain (dotted n) ≡ true
unfolding dotted
plain-dotted n h =
    plain-join 46 (decimal (n / 16777216) ∷ decimal (n / 65536 % 256) ∷ decimal (n / 256 % 256) ∷ decimal (n % 256) ∷ []) (lit< tt)
    (rw (
      plain-decimal (n / 16777216) (omega arith),
      plain-decimal (n / 65536 % 256) (omega arith),
      plain-decimal (n / 256 % 256) (omega arith),
      plain-decimal (n % 256) (omega arith),
    ) refl)

pub plain-place : (a b : ℕ) → a < 2 ^ 64 → b < 2 ^ 64 → is_plain (place (a, b)) ≡ true
unfolding place
plain-place a b h i = plain-join 46 (decimal a ∷ decimal b ∷ []) (lit< tt) (rw (plain-decimal a h, plain-decimal b i) refl)

plain-snoc : (xs : List ℕ) (b : ℕ) → is_plain xs ≡ true → 32 < b → is_plain (xs ++ b ∷ []) ≡ true
plain-snoc [] b h k = and_from (nat_lt 32 b) true (lt-ltb 32 b k) refl
plain-snoc (x ∷ xs) b h k =
    let both = and_parts (nat_lt 32 x) (is_plain xs) h in
    and_from (nat_lt 32 x) (is_plain (xs ++ b ∷ [])) both.0 (plain-snoc xs b both.1 k)

plain-hex : (k n : ℕ) → is_plain (hex k n) ≡ true
plain-hex zero n = refl
plain-hex (suc k) n = plain-snoc (hex k (n / 16)) (glyph (n % 16)) (plain-hex k (n / 16)) (above (n % 16)) where
  above : (d : ℕ) → 32 < glyph d
  above d = grind (arith, nat_tests)

pub plain-hex8 : (n : ℕ) → is_plain (hex8 n) ≡ true
unfolding hex8
plain-hex8 n = plain-hex 8 n
