-- What the tenures step.
use Rattle.std.proofs.Common.{◌≡◌, ℕ, zero, suc, ◌+◌, ◌<◌, Bool, true, false, List, [], ◌∷◌, ◌++◌, refl, sym, ap, ◌∙◌, arith, append_assoc, append-nil, add-zero, zero-add, ◌⊎◌, inl, inr}
use Rattle.std.specs.Prelude.{◌==◌, if◌then◌else◌, Option}
use Rattle.std.proofs.lemmas.Bool.Decides.{nat_tests}
use Rattle.ix_order.specs.Wire.{accepted, dropped, Entry, frame, time, tag, move, settle, Item, Table, turned, put_by, put_on, RingIs, RingsAre, NameCores, entry_of, entries, moves}
use Rattle.ix_order.specs.Pieces.{opened_by, adds, opening, core_in, by_tenure}
use Rattle.ix_order.specs.Ends.{opened}
use Rattle.ix_order.specs.Stages.{same, behind_by, part, ring_part, queue, StepsJoined}
use Rattle.ix_order.specs.Steppers.{tagged_by}
use Rattle.ix_order.proofs.Joined.{opened-put_by, moved, core_in-now, core_in-below, over_rings-same, over_rings-one, by_tenure-same}

-- whether what follows stands behind the tag of g, after some items
abbrev pub behind : ℕ → Bool → List Item → Bool
behind g f [] = f
behind g f (x ∷ xs) = behind g (behind_by g f x) xs

part-append : (g k : ℕ) (b : Bool) (o : Option ℕ) (f : Bool) (xs ys : List Item) → part g k b o f (xs ++ ys) ≡ part g k b o f xs ++ part g k b (opened g o xs) (behind g f xs) ys
part-append g k b o f [] ys = refl
part-append g k b o f (x ∷ xs) ys =
    ap (λ zs. (if same b f then adds g k o x else []) ++ zs) (part-append g k b (opened_by g o x) (behind_by g f x) xs ys) ∙ sym (append_assoc (if same b f then adds g k o x else []) _ _)

abbrev pub flag : ℕ → ℕ → Table → Bool → Bool
flag g r t b = if r == (t g).core then b else false

-- a ring's flag follows the table
pub behind-put_by : (g r : ℕ) (t : Table) (b : Bool) (w : ℕ) (e : Entry) → behind g (flag g r t b) (put_by r t w e) ≡ flag g r (turned t e) (tagged_by g b e)
behind-put_by g r t b w (frame h (accepted s)) = grind (arith, nat_tests)
behind-put_by g r t b w (frame h dropped) = refl
behind-put_by g r t b w (tag h) = grind (arith, nat_tests)
behind-put_by g r t b w (move h c) = grind (arith, nat_tests)
behind-put_by g r t b w time = refl
behind-put_by g r t b w settle = refl

-- what an entry adds to a part
part-put_by : (g k : ℕ) (p : Bool) (r : ℕ) (t : Table) (b : Bool) (w : ℕ) (e : Entry) → RingIs t e
    → part g k p (opening g r t) (flag g r t b) (put_by r t w e) ≡ (if r == (t g).core then (if k == (t g).tenure then (if same p b then entry_of g w e else []) else []) else [])
part-put_by g k p r t b w (frame h (accepted s)) i = grind (arith, nat_tests)
part-put_by g k p r t b w (frame h dropped) i = grind (arith, nat_tests)
part-put_by g k p r t b w (tag h) i = grind (arith, nat_tests)
part-put_by g k p r t b w (move h c) i = grind (arith, nat_tests)
part-put_by g k p r t b w time i = grind (arith, nat_tests)
part-put_by g k p r t b w settle i = grind (arith, nat_tests)

-- the entries that come in tenure k, before or behind its tag
abbrev pub of_part : ℕ → ℕ → Bool → Table → Bool → ℕ → List Entry → List ℕ
of_part g k p t b w [] = []
of_part g k p t b w (e ∷ es) = (if k == (t g).tenure then (if same p b then entry_of g w e else []) else []) ++ of_part g k p (turned t e) (tagged_by g b e) (suc w) es

pub of_part-over : (g k : ℕ) (p : Bool) (t : Table) (b : Bool) (w : ℕ) (es : List Entry) → k < (t g).tenure → of_part g k p t b w es ≡ []
of_part-over g k p t b w [] q = refl
of_part-over g k p t b w (e ∷ es) q =
    let later : k < (turned t e g).tenure = elim (moved g t w e es) [ inl m ↦ grind arith | inr m ↦ grind arith ] in
    let rest = of_part-over g k p (turned t e) (tagged_by g b e) (suc w) es later in
    grind (arith, nat_tests)

pub select : (at s r k j : ℕ) (ent rest : List ℕ) → (k ≡ j → (s ≡ at) ⊎ (rest ≡ []))
    → (if r == at then (if k == j then ent else []) else []) ++ (if r == s then rest else []) ≡ (if r == (if k == j then at else s) then (if k == j then ent else []) ++ rest else [])
select at s r k j ent rest now = grind (arith, nat_tests, append-nil)

pub part-put_on : (g k : ℕ) (p : Bool) (r : ℕ) (t : Table) (b : Bool) (w : ℕ) (es : List Entry) → RingsAre t es
    → part g k p (opening g r t) (flag g r t b) (put_on r t w es) ≡ (if r == core_in g k t es then of_part g k p t b w es else [])
part-put_on g k p r t b w [] rings = grind (arith, nat_tests)
part-put_on g k p r t b w (e ∷ es) rings =
    part-append g k p (opening g r t) (flag g r t b) (put_by r t w e) (put_on r (turned t e) (suc w) es)
    ∙ ap (λ o. part g k p (opening g r t) (flag g r t b) (put_by r t w e) ++ part g k p o (behind g (flag g r t b) (put_by r t w e)) (put_on r (turned t e) (suc w) es)) (opened-put_by g r t w e)
    ∙ ap (λ f. part g k p (opening g r t) (flag g r t b) (put_by r t w e) ++ part g k p (opening g r (turned t e)) f (put_on r (turned t e) (suc w) es)) (behind-put_by g r t b w e)
    ∙ ap (λ xs. xs ++ part g k p (opening g r (turned t e)) (flag g r (turned t e) (tagged_by g b e)) (put_on r (turned t e) (suc w) es)) (part-put_by g k p r t b w e rings.0)
    ∙ ap (λ xs. (if r == (t g).core then (if k == (t g).tenure then (if same p b then entry_of g w e else []) else []) else []) ++ xs) (part-put_on g k p r (turned t e) (tagged_by g b e) (suc w) es rings.1)
    ∙ select (t g).core (core_in g k (turned t e) es) r k (t g).tenure (if same p b then entry_of g w e else []) (of_part g k p (turned t e) (tagged_by g b e) (suc w) es)
    (λ now. elim (moved g t w e es) [
      | inl m ↦ inl (let at = core_in-now g (turned t e) es in rw (now, ← m.0) (at ∙ refl))
      | inr m ↦ inr (of_part-over g k p (turned t e) (tagged_by g b e) (suc w) es (omega (arith, m.1)))
    ])

pub ring_part-is : (n g k : ℕ) (p : Bool) (t : Table) (es : List Entry) → (t g).core < n → NameCores n es → RingsAre t es
    → ring_part n g k p t es ≡ of_part g k p t false 0 es
ring_part-is n g k p t es core names rings =
    over_rings-same n (λ r. part g k p (opening g r t) false (put_on r t 0 es)) (λ r. if r == core_in g k t es then of_part g k p t false 0 es else [])
    (λ r. let off : flag g r t false ≡ false = grind (arith, nat_tests) in ap (λ f. part g k p (opening g r t) f (put_on r t 0 es)) (sym off) ∙ part-put_on g k p r t false 0 es rings)
    ∙ over_rings-one n (core_in g k t es) (of_part g k p t false 0 es) (core_in-below n g k t es core names)

-- behind its tag a group stays there, or goes to its next tenure
stays : (g : ℕ) (t : Table) (e : Entry) → ((turned t e g ≡ t g) × (tagged_by g true e ≡ true)) ⊎ ((t g).tenure < (turned t e g).tenure)
stays g t (frame h (accepted s)) = inl (refl, refl)
stays g t (frame h dropped) = inl (refl, refl)
stays g t (tag h) = inl (refl, grind (arith, nat_tests))
stays g t (move h c) = grind (arith, nat_tests)
stays g t time = inl (refl, refl)
stays g t settle = inl (refl, refl)

-- a tenure whose tag was there gets nothing more before it
pub of_part-tagged : (g : ℕ) (t : Table) (w : ℕ) (es : List Entry) → of_part g (t g).tenure false t true w es ≡ []
of_part-tagged g t w [] = refl
of_part-tagged g t w (e ∷ es) =
    let rest : of_part g (t g).tenure false (turned t e) (tagged_by g true e) (suc w) es ≡ [] =
    elim (stays g t e) [
      | inl m ↦ rw m.1 (rw m.0 at (of_part-tagged g (turned t e) (suc w) es))
      | inr m ↦ of_part-over g (t g).tenure false (turned t e) (tagged_by g true e) (suc w) es m
    ] in
    grind (arith, nat_tests)

-- the same, before the next entry
pub of_part-late : (g : ℕ) (t : Table) (b : Bool) (w : ℕ) (e : Entry) (es : List Entry) → b ≡ true → of_part g (t g).tenure false (turned t e) (tagged_by g b e) w es ≡ []
of_part-late g t b w e es was =
    elim (stays g t e) [
      | inl m ↦ rw (was, m.1) (rw m.0 at (of_part-tagged g (turned t e) w es))
      | inr m ↦ of_part-over g (t g).tenure false (turned t e) (tagged_by g b e) w es m
    ]

-- an entry goes before the tag or behind it
join : (now b : Bool) (ent before late rest rest' whole : List ℕ)
    → now ≡ true → (b ≡ true → before ≡ []) → rest ≡ rest' → (before ++ late) ++ rest' ≡ whole
    → (((if now then (if same false b then ent else []) else []) ++ before) ++ ((if now then (if same true b then ent else []) else []) ++ late)) ++ rest ≡ ent ++ whole
join true false ent before late rest rest' whole n t r e = grind (arith, append_assoc)
join true true ent before late rest rest' whole n t r e = let none = t refl in grind (arith, append_assoc)
join false b ent before late rest rest' whole n t r e = absurd (cc)

-- an entry that moves the group is none of its own
join_moved : (now b : Bool) (ent before late rest rest' whole : List ℕ)
    → ent ≡ [] → before ≡ [] → late ≡ [] → rest ≡ rest' → rest' ≡ whole
    → (((if now then (if same false b then ent else []) else []) ++ before) ++ ((if now then (if same true b then ent else []) else []) ++ late)) ++ rest ≡ ent ++ whole
join_moved true false ent before late rest rest' whole n x y r e = grind (arith, append_assoc)
join_moved true true ent before late rest rest' whole n x y r e = grind (arith, append_assoc)
join_moved false b ent before late rest rest' whole n x y r e = grind (arith, append_assoc)

pub here : (j : ℕ) → (j == j) ≡ true
here j = grind (arith, nat_tests)

-- each tenure's two parts, joined
both : (g : ℕ) (t : Table) (b : Bool) (w : ℕ) (es : List Entry)
    → by_tenure (λ k. of_part g k false t b w es ++ of_part g k true t b w es) (t g).tenure (suc (moves g es)) ≡ entries g w es
both g t b w [] = refl
both g t b w (e ∷ es) =
    elim (moved g t w e es) [
      | inl m ↦
          let rest = rw m.0 at (both g (turned t e) (tagged_by g b e) (suc w) es) in
          let tail = by_tenure-same (moves g es) (suc (t g).tenure)
          (λ k. of_part g k false t b w (e ∷ es) ++ of_part g k true t b w (e ∷ es))
          (λ k. of_part g k false (turned t e) (tagged_by g b e) (suc w) es ++ of_part g k true (turned t e) (tagged_by g b e) (suc w) es)
          (λ k p. grind (arith, nat_tests)) in
          rw m.1 (join ((t g).tenure == (t g).tenure) b (entry_of g w e) _ _ _ _ (entries g (suc w) es) (here (t g).tenure) (of_part-late g t b (suc w) e es) tail rest)
      | inr m ↦
          let rest = rw m.1 at (both g (turned t e) (tagged_by g b e) (suc w) es) in
          let before = of_part-over g (t g).tenure false (turned t e) (tagged_by g b e) (suc w) es (omega (arith, m.1)) in
          let late = of_part-over g (t g).tenure true (turned t e) (tagged_by g b e) (suc w) es (omega (arith, m.1)) in
          let tail = by_tenure-same (suc (moves g es)) (suc (t g).tenure)
          (λ k. of_part g k false t b w (e ∷ es) ++ of_part g k true t b w (e ∷ es))
          (λ k. of_part g k false (turned t e) (tagged_by g b e) (suc w) es ++ of_part g k true (turned t e) (tagged_by g b e) (suc w) es)
          (λ k p. grind (arith, nat_tests)) in
          rw m.2 (join_moved ((t g).tenure == (t g).tenure) b (entry_of g w e) _ _ _ _ (entries g (suc w) es) m.0 before late tail rest)
    ]

pub shift : {X : Type 0} (q b l rest late handed whole : List X) → handed ≡ l → rest ++ late ≡ handed ++ whole → ((q ++ b) ++ rest) ++ late ≡ q ++ ((b ++ l) ++ whole)
shift q b l rest late handed whole h e = grind (arith, append_assoc)

-- the part behind each tag, stepped in the tenure after it
pub shifted : {X : Type 0} (before late queue : ℕ → List X) (j n : ℕ) → ((k : ℕ) → queue (suc k) ≡ late k)
    → by_tenure (λ k. queue k ++ before k) j (suc n) ++ late (j + n) ≡ queue j ++ by_tenure (λ k. before k ++ late k) j (suc n)
shifted before late queue j zero next = rw add-zero (grind (arith, append_assoc, append-nil))
shifted before late queue j (suc n) next =
    let rest = shifted before late queue (suc j) n next in
    let at : j + suc n ≡ suc j + n = omega arith in
    let handed = next j in
    rw at (shift (queue j) (before j) (late j) _ _ _ _ handed rest)

pub steps_joined_lem : StepsJoined
steps_joined_lem n g t es core first names rings =
    let total = shifted (λ k. ring_part n g k false t es) (λ k. ring_part n g k true t es) (λ k. queue n g k t es) 0 (moves g es) (λ k. refl) in
    rw zero-add at total
    ∙ by_tenure-same (suc (moves g es)) 0
    (λ k. ring_part n g k false t es ++ ring_part n g k true t es)
    (λ k. of_part g k false t false 0 es ++ of_part g k true t false 0 es)
    (λ k p. let a = ring_part-is n g k false t es core names rings in let b = ring_part-is n g k true t es core names rings in cc)
    ∙ (rw first at (both g t false 0 es))
