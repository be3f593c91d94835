-- What the entries put on a ring stands right there.
use Rattle.std.proofs.Common.{◌≡◌, ℕ, suc, ◌+◌, Bool, true, false, List, [], ◌∷◌, ◌++◌, map, take, length, fold, refl, sym, ap, ◌∙◌, subst, arith, append_assoc}
use Rattle.std.specs.Prelude.{◌==◌, not, if◌then◌else◌, Option, Some, None}
use Rattle.std.specs.List.{AllByRecursion}
use Rattle.ix_desk.specs.declared.unit.DeskItem.TheVariants.{Work, Tag, Cut, Start}
use Rattle.ix_order.specs.Wire.{accepted, dropped, Entry, Seat, frame, time, tag, move, settle, Item, work, clock, cut, start, tagged, ended, Table, turned, put_by, put_on}
use Rattle.ix_order.specs.Pieces.{opened_by, opening}
use Rattle.ix_order.specs.Stages.{behind_by}
use Rattle.ix_order.specs.Steppers.{TagsAlternate, alternates, tagged_by, tags_by}
use Rattle.ix_history.specs.Events.{RingItem, at_end, for_each, for_group}
use Rattle.ix_history.specs.Items.{told}
use Rattle.ix_deeds.specs.Right.{AreRight, IsRightIn}
use Rattle.ix_deeds.specs.Rings.{IsRingItemNamed, RingsAreRight, tenure_at}
use Rattle.ix_deeds.proofs.Parts.{self-test, test-eq}

-- ## By names alone
module _ (tenure_of : ℕ → ℕ) (g : ℕ) where
  abbrev NameIn : Option ℕ → Bool → ℕ → Type 0
  NameIn None f w = Unit {0}
  NameIn (Some k) f w = tenure_of w ≡ (if f then suc k else k)

  abbrev IsNameRight : Option ℕ → Bool → Item → Type 0
  IsNameRight o f (work h w) = h ≡ g → NameIn o f w
  IsNameRight o f (clock w) = NameIn o f w
  IsNameRight o f (cut h c) = Unit {0}
  IsNameRight o f (start h k) = Unit {0}
  IsNameRight o f (tagged h) = Unit {0}
  IsNameRight o f ended = Unit {0}

  abbrev NamesRight : Option ℕ → Bool → List Item → Type 0
  NamesRight o f [] = Unit {0}
  NamesRight o f (x ∷ xs) = IsNameRight o f x × NamesRight (opened_by g o x) (behind_by g f x) xs

  abbrev o_after : Option ℕ → List Item → Option ℕ
  o_after o [] = o
  o_after o (x ∷ xs) = o_after (opened_by g o x) xs

  abbrev f_after : Bool → List Item → Bool
  f_after f [] = f
  f_after f (x ∷ xs) = f_after (behind_by g f x) xs

  names-append : (o : Option ℕ) (f : Bool) (xs ys : List Item) → NamesRight o f xs → NamesRight (o_after o xs) (f_after f xs) ys → NamesRight o f (xs ++ ys)
  names-append o f [] ys p q = q
  names-append o f (x ∷ xs) ys p q = (p.0, names-append (opened_by g o x) (behind_by g f x) xs ys p.1 q)

  -- the tenures of the entries from the w-th on, with T tags before them
  abbrev TenuresFrom : ℕ → ℕ → List Entry → Type 0
  TenuresFrom w n [] = Unit {0}
  TenuresFrom w n (e ∷ es) = (tenure_of w ≡ n) × TenuresFrom (suc w) (tags_by g n e) es

  -- what is open on a ring of a group in this seat, with the tags so far and whether one is open
  abbrev opening_by : ℕ → Seat → Option ℕ
  opening_by c s = if c == s.core then Some s.tenure else None

  record RingStands (c : ℕ) (s : Seat) (n : ℕ) (b : Bool) (o : Option ℕ) (f : Bool) : Type 0 where
    is_open : o ≡ opening_by c s
    is_tagged : c ≡ s.core → f ≡ b
    tags : n ≡ s.tenure + (if b then 1 else 0)

  name-here : (c : ℕ) (s : Seat) (n w : ℕ) (b : Bool) (o : Option ℕ) (f : Bool) → RingStands c s n b o f → tenure_of w ≡ n → NameIn o f w
  name-here c s n w b o f st e = subst (λ p. NameIn p f w) (sym st.is_open) (by_core (c == s.core) refl)
    where
      by_bool : (b : Bool) → n ≡ s.tenure + (if b then 1 else 0) → tenure_of w ≡ (if b then suc s.tenure else s.tenure)
      by_bool true q = omega (arith, e, q)
      by_bool false q = omega (arith, e, q)

      by_core : (q : Bool) → (c == s.core) ≡ q → NameIn (if q then Some s.tenure else None) f w
      by_core true q = subst (λ x. tenure_of w ≡ (if x then suc s.tenure else s.tenure)) (sym (st.is_tagged (test-eq c s.core q))) (by_bool b st.tags)
      by_core false q = tt

  -- ## One entry
  record Next (c : ℕ) (s : Seat) (n : ℕ) (b : Bool) (xs : List Item) (o : Option ℕ) (f : Bool) : Type 0 where
    right : NamesRight o f xs
    next : RingStands c s n b (o_after o xs) (f_after f xs)

  eq-false : (a b : ℕ) → (a == b) ≡ false → a ≡ b → ⊥
  eq-false a b e same = let p : (a == b) ≡ true = subst (λ m. (a == m) ≡ true) same (self-test a) in absurd (cc)

  not-true : (b : Bool) → not b ≡ true → b ≡ false
  not-true true e = absurd (cc)
  not-true false e = refl

  tag-own : (c : ℕ) (s : Seat) (n : ℕ) (b : Bool) (h : ℕ) (o : Option ℕ) (f : Bool) → (g == h) ≡ true → b ≡ false → RingStands c s n b o f → (q : Bool) → (c == s.core) ≡ q
      → Next c s (if g == h then suc n else n) (if g == h then true else b) (if q then tagged h ∷ [] else []) o f
  tag-own c s n b h o f e was st true q = record {
    right = (tt, tt);
    next = record {
      is_open = st.is_open;
      is_tagged = λ same. rw e refl;
      tags = (let before : n ≡ s.tenure + 0 = subst (λ x. n ≡ s.tenure + (if x then 1 else 0)) was st.tags in rw e (omega (arith, before)));
    };
  }
  tag-own c s n b h o f e was st false q = record {
    right = tt;
    next = record {
      is_open = st.is_open;
      is_tagged = λ same. absurd (eq-false c s.core q same);
      tags = (let before : n ≡ s.tenure + 0 = subst (λ x. n ≡ s.tenure + (if x then 1 else 0)) was st.tags in rw e (omega (arith, before)));
    };
  }

  tag-other : (c : ℕ) (s : Seat) (n : ℕ) (b : Bool) (h : ℕ) (o : Option ℕ) (f : Bool) → (g == h) ≡ false → RingStands c s n b o f → (q : Bool)
      → Next c s (if g == h then suc n else n) (if g == h then true else b) (if q then tagged h ∷ [] else []) o f
  tag-other c s n b h o f e st true = record { right = (tt, tt); next = record { is_open = st.is_open; is_tagged = λ same. rw e (st.is_tagged same); tags = rw e st.tags } }
  tag-other c s n b h o f e st false = record { right = tt; next = record { is_open = st.is_open; is_tagged = λ same. rw e (st.is_tagged same); tags = rw e st.tags } }

  -- a move away from this ring or not, and to it or not
  abbrev moved_items : Bool → Bool → ℕ → ℕ → ℕ → List Item
  moved_items p q h d k = (if p then cut h d ∷ [] else []) ++ (if q then start h k ∷ [] else [])

  none-open : (c : ℕ) (s : Seat) (o : Option ℕ) → o ≡ opening_by c s → (c == s.core) ≡ false → o ≡ None
  none-open c s o is e = is ∙ (rw e refl)

  move-own : (c : ℕ) (s : Seat) (n : ℕ) (h d : ℕ) (o : Option ℕ) (f : Bool) → (g == h) ≡ true → RingStands c s n true o f → (p q : Bool) → (c == s.core) ≡ p → (c == d) ≡ q
      → Next c (record { core = d; tenure = s.tenure + 1 }) n false (moved_items p q h d (s.tenure + 1)) o f
  move-own c s n h d o f e st true true ep eq = record {
    right = (tt, (tt, tt));
    next = record { is_open = (rw (e, eq) refl); is_tagged = λ same. (rw e refl); tags = (let before = st.tags in omega (arith, before)) };
  }
  move-own c s n h d o f e st true false ep eq = record {
    right = (tt, tt);
    next = record { is_open = (rw (e, eq) refl); is_tagged = λ same. absurd (eq-false c d eq same); tags = (let before = st.tags in omega (arith, before)) };
  }
  move-own c s n h d o f e st false true ep eq = record {
    right = (tt, tt);
    next = record { is_open = (rw (e, eq) refl); is_tagged = λ same. (rw e refl); tags = (let before = st.tags in omega (arith, before)) };
  }
  move-own c s n h d o f e st false false ep eq = record {
    right = tt;
    next = record { is_open = none-open c s o st.is_open ep ∙ (rw eq refl); is_tagged = λ same. absurd (eq-false c d eq same); tags = (let before = st.tags in omega (arith, before)) };
  }

  move-other : (c : ℕ) (s : Seat) (n : ℕ) (b : Bool) (h d k : ℕ) (o : Option ℕ) (f : Bool) → (g == h) ≡ false → RingStands c s n b o f → (p q : Bool)
      → Next c s n b (moved_items p q h d k) o f
  move-other c s n b h d k o f e st true true = record { right = (tt, (tt, tt)); next = record { is_open = (rw e st.is_open); is_tagged = λ same. (rw e (st.is_tagged same)); tags = st.tags } }
  move-other c s n b h d k o f e st true false = record { right = (tt, tt); next = record { is_open = (rw e st.is_open); is_tagged = λ same. (rw e (st.is_tagged same)); tags = st.tags } }
  move-other c s n b h d k o f e st false true = record { right = (tt, tt); next = record { is_open = (rw e st.is_open); is_tagged = λ same. (rw e (st.is_tagged same)); tags = st.tags } }
  move-other c s n b h d k o f e st false false = record { right = tt; next = record { is_open = st.is_open; is_tagged = st.is_tagged; tags = st.tags } }

  one-entry : (c : ℕ) (t : Table) (n : ℕ) (b : Bool) (w : ℕ) (e : Entry) (o : Option ℕ) (f : Bool) → tenure_of w ≡ n → alternates g b e ≡ true → RingStands c (t g) n b o f
      → Next c (turned t e g) (tags_by g n e) (tagged_by g b e) (put_by c t w e) o f
  one-entry c t n b w (frame h (accepted s)) o f ten alt st = by_ring (c == s)
    where
      by_ring : (q : Bool) → Next c (t g) n b (if q then work h w ∷ [] else []) o f
      by_ring true = record { right = ((λ same. name-here c (t g) n w b o f st ten), tt); next = st }
      by_ring false = record { right = tt; next = st }
  one-entry c t n b w (frame h dropped) o f ten alt st = record { right = tt; next = st }
  one-entry c t n b w time o f ten alt st = record { right = (name-here c (t g) n w b o f st ten, tt); next = st }
  one-entry c t n b w settle o f ten alt st = record { right = (tt, tt); next = st }
  one-entry c t n b w (tag h) o f ten alt st = by_group (g == h) refl
    where
      by_group : (q : Bool) → (g == h) ≡ q → Next c (t g) (if g == h then suc n else n) (if g == h then true else b) (if c == (t h).core then tagged h ∷ [] else []) o f
      by_group true e =
          let same : (c == (t h).core) ≡ (c == (t g).core) = ap (λ m. c == (t m).core) (sym (test-eq g h e)) in
          tag-own c (t g) n b h o f e (not-true b (rw e at alt)) st (c == (t h).core) (sym same)
      by_group false e = tag-other c (t g) n b h o f e st (c == (t h).core)
  one-entry c t n b w (move h d) o f ten alt st = by_group (g == h) refl
    where
      by_group : (q : Bool) → (g == h) ≡ q → Next c (turned t (move h d) g) n (if g == h then false else b) (moved_items (c == (t h).core) (c == d) h d ((t h).tenure + 1)) o f
      by_group true e =
          let same = test-eq g h e in
          let was : b ≡ true = rw e at alt in
          let core : (c == (t g).core) ≡ (c == (t h).core) = ap (λ m. c == (t m).core) same in
          let own = move-own c (t g) n h d o f e (subst (λ x. RingStands c (t g) n x o f) was st) (c == (t h).core) (c == d) core refl in
          rw e (subst (λ m. Next c (record { core = d; tenure = (t m).tenure + 1 }) n false (moved_items (c == (t h).core) (c == d) h d ((t m).tenure + 1)) o f) same own)
      by_group false e = rw e (move-other c (t g) n b h d ((t h).tenure + 1) o f e st (c == (t h).core) (c == d))

  -- ## All entries
  all-right : (c : ℕ) (t : Table) (n : ℕ) (b : Bool) (w : ℕ) (es : List Entry) (o : Option ℕ) (f : Bool) → TenuresFrom w n es → TagsAlternate g b es → RingStands c (t g) n b o f
      → NamesRight o f (put_on c t w es)
  all-right c t n b w [] o f ten alt st = tt
  all-right c t n b w (e ∷ es) o f ten alt st =
      let one = one-entry c t n b w e o f ten.0 alt.0 st in
      names-append o f (put_by c t w e) (put_on c (turned t e) (suc w) es) one.right
      (all-right c (turned t e) (tags_by g n e) (tagged_by g b e) (suc w) es (o_after o (put_by c t w e)) (f_after f (put_by c t w e)) ten.1 alt.1 one.next)

-- ## The tenures of the entries
tenures-from : (g : ℕ) (past es : List Entry) → TenuresFrom (tenure_at g (past ++ es)) g (length past) (fold (tags_by g) 0 past) es
tenures-from g past [] = tt
tenures-from g past (e ∷ es) = (
  ap (fold (tags_by g) 0) (take-past past (e ∷ es)),
  let again = tenures-from g (past ++ e ∷ []) es in
      subst (λ (all : List Entry). TenuresFrom (tenure_at g all) g (suc (length past)) (tags_by g (fold (tags_by g) 0 past) e) es) (append_assoc past (e ∷ []) es)
      (subst (λ m. TenuresFrom (tenure_at g ((past ++ e ∷ []) ++ es)) g (suc (length past)) m es) (fold-last (tags_by g) 0 past e)
      (subst (λ m. TenuresFrom (tenure_at g ((past ++ e ∷ []) ++ es)) g m (fold (tags_by g) 0 (past ++ e ∷ [])) es) (length-last past e) again)),
)
  where
    take-past : (xs ys : List Entry) → take (length xs) (xs ++ ys) ≡ xs
    take-past [] ys = refl
    take-past (x ∷ xs) ys = ap (λ zs. x ∷ zs) (take-past xs ys)

    fold-last : (f : ℕ → Entry → ℕ) (a : ℕ) (xs : List Entry) (x : Entry) → fold f a (xs ++ x ∷ []) ≡ f (fold f a xs) x
    fold-last f a [] x = refl
    fold-last f a (y ∷ xs) x = fold-last f (f a y) xs x

    length-last : (xs : List Entry) (x : Entry) → length (xs ++ x ∷ []) ≡ suc (length xs)
    length-last [] x = refl
    length-last (y ∷ xs) x = ap suc (length-last xs x)

-- ## From names to items
module _ {I : Type 0} (name : I → ℕ) (tenure_of : ℕ → ℕ) (named : ℕ → I) (g : ℕ) where
  is-right : (o : Option ℕ) (f : Bool) (x : I) → NameIn tenure_of g o f (name x) → x ≡ named (name x) → IsRightIn name tenure_of named o f x
  is-right None f x right is = tt
  is-right (Some k) f x right is = record { tenure = right; is = is }

  items-right : (o : Option ℕ) (f : Bool) (items : List (RingItem I)) → NamesRight tenure_of g o f (map (told name) items) → AllByRecursion (IsRingItemNamed name named) items
      → AreRight name tenure_of named g o f items
  items-right o f [] right is = tt
  items-right o f (for_group h (Work x) ∷ items) right is = ((λ same. is-right o f x (right.0 same) is.0), items-right (opened_by g o (told name (for_group h (Work x)))) (behind_by g f (told name (for_group h (Work x)))) items right.1 is.1)
  items-right o f (for_group h Tag ∷ items) right is = ((λ same. tt), items-right (opened_by g o (told name (for_group h Tag))) (behind_by g f (told name (for_group h Tag))) items right.1 is.1)
  items-right o f (for_group h (Cut to) ∷ items) right is = ((λ same. tt), items-right (opened_by g o (told name (for_group h (Cut to)))) (behind_by g f (told name (for_group h (Cut to)))) items right.1 is.1)
  items-right o f (for_group h (Start k) ∷ items) right is = ((λ same. tt), items-right (opened_by g o (told name (for_group h (Start k)))) (behind_by g f (told name (for_group h (Start k)))) items right.1 is.1)
  items-right o f (for_each x ∷ items) right is = (is-right o f x right.0 is.0, items-right (opened_by g o (told name (for_each x))) (behind_by g f (told name (for_each x))) items right.1 is.1)
  items-right o f (at_end ∷ items) right is = (tt, items-right (opened_by g o (told name at_end)) (behind_by g f (told name at_end)) items right.1 is.1)

pub rings-are-right : (I : Type 0) (name : I → ℕ) → RingsAreRight I name
rings-are-right I name named g c t es items first alternate put is =
    items-right name (tenure_at g es) named g (opening g c t) false items
    (subst (NamesRight (tenure_at g es) g (opening g c t) false) (sym put)
    (all-right (tenure_at g es) g c t 0 false 0 es (opening g c t) false (tenures-from g [] es) alternate
    (record { is_open = refl; is_tagged = λ same. refl; tags = omega (arith, first) })))
    is
