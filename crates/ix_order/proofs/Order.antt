-- The order of items on a ring, and how pieces begin.
use Rattle.std.proofs.Common.{◌≡◌, ℕ, suc, ◌+◌, ◌<◌, ◌≤◌, Bool, true, false, List, [], ◌∷◌, ◌++◌, refl, sym, ap, ◌∙◌, arith, append_assoc, ◌⊎◌, inl, inr}
use Rattle.std.specs.Prelude.{◌==◌, ◌&&◌, if◌then◌else◌, Option}
use Rattle.std.proofs.lemmas.Bool.Decides.{nat_tests}
use Rattle.ix_order.specs.Wire.{accepted, dropped, Entry, frame, time, tag, move, settle, Item, Table, turned, put_by, put_on, RingIs, RingsAre, moves}
use Rattle.ix_order.specs.Pieces.{opened_by, opening, core_in}
use Rattle.ix_order.specs.Stages.{behind_by}
use Rattle.ix_order.specs.Steppers.{tagged_by, alternates, TagsAlternate}
use Rattle.ix_order.specs.Ends.{opened}
use Rattle.ix_order.specs.Order.{comes_next, last_by, in_order, RingsInOrder, begins, begun, PiecesBegin}
use Rattle.ix_order.proofs.Joined.{opened-put_by, moved, core_in-now}
use Rattle.ix_order.proofs.Stepped.{flag, behind, behind-put_by}

-- the greatest tenure so far, after some items
abbrev latest : ℕ → ℕ → List Item → ℕ
latest g l [] = l
latest g l (x ∷ xs) = latest g (last_by g l x) xs

and-assoc : (a b c : Bool) → (a && (b && c)) ≡ ((a && b) && c)
and-assoc true b c = refl
and-assoc false b c = refl

in_order-append : (m g : ℕ) (o : Option ℕ) (f : Bool) (l : ℕ) (xs ys : List Item)
    → in_order m g o f l (xs ++ ys) ≡ (in_order m g o f l xs && in_order m g (opened g o xs) (behind g f xs) (latest g l xs) ys)
in_order-append m g o f l [] ys = refl
in_order-append m g o f l (x ∷ xs) ys =
    ap (λ b. comes_next m g o f l x && b) (in_order-append m g (opened_by g o x) (behind_by g f x) (last_by g l x) xs ys)
    ∙ and-assoc (comes_next m g o f l x) (in_order m g (opened_by g o x) (behind_by g f x) (last_by g l x) xs) _

-- what an entry puts on a ring comes in order there
put_by-in_order : (m g r : ℕ) (t : Table) (b : Bool) (l w : ℕ) (e : Entry) → RingIs t e → alternates g b e ≡ true → l ≤ (t g).tenure
    → (turned t e g).tenure ≤ m → in_order m g (opening g r t) (flag g r t b) l (put_by r t w e) ≡ true
put_by-in_order m g r t b l w (frame h (accepted s)) i a p q = grind (arith, nat_tests)
put_by-in_order m g r t b l w (frame h dropped) i a p q = refl
put_by-in_order m g r t b l w (tag h) i a p q = grind (arith, nat_tests)
put_by-in_order m g r t b l w (move h c) i a p q = grind (arith, nat_tests)
put_by-in_order m g r t b l w time i a p q = refl
put_by-in_order m g r t b l w settle i a p q = refl

latest-put_by : (g r : ℕ) (t : Table) (l w : ℕ) (e : Entry) → l ≤ (t g).tenure → latest g l (put_by r t w e) ≤ (turned t e g).tenure
latest-put_by g r t l w (frame h (accepted s)) p = grind (arith, nat_tests)
latest-put_by g r t l w (frame h dropped) p = p
latest-put_by g r t l w (tag h) p = grind (arith, nat_tests)
latest-put_by g r t l w (move h c) p = grind (arith, nat_tests)
latest-put_by g r t l w time p = p
latest-put_by g r t l w settle p = p

put_on-in_order : (m g r : ℕ) (t : Table) (b : Bool) (l w : ℕ) (es : List Entry) → RingsAre t es → TagsAlternate g b es → l ≤ (t g).tenure
    → (t g).tenure + moves g es ≤ m → in_order m g (opening g r t) (flag g r t b) l (put_on r t w es) ≡ true
put_on-in_order m g r t b l w [] rings a p q = refl
put_on-in_order m g r t b l w (e ∷ es) rings a p q =
    let later : (turned t e g).tenure + moves g es ≤ m =
    elim (moved g t w e es) [ inl n ↦ (let same : (turned t e g).tenure ≡ (t g).tenure = ap (λ s. s.tenure) n.0 in omega (arith, same, n.1)) | inr n ↦ omega (arith, n.1, n.2) ] in
    let first = put_by-in_order m g r t b l w e rings.0 a.0 p (omega (arith, later)) in
    let rest = put_on-in_order m g r (turned t e) (tagged_by g b e) (latest g l (put_by r t w e)) (suc w) es rings.1 a.1 (latest-put_by g r t l w e p) later in
    in_order-append m g (opening g r t) (flag g r t b) l (put_by r t w e) (put_on r (turned t e) (suc w) es)
    ∙ ap (λ c. c && in_order m g (opened g (opening g r t) (put_by r t w e)) (behind g (flag g r t b) (put_by r t w e)) (latest g l (put_by r t w e)) (put_on r (turned t e) (suc w) es)) first
    ∙ ap (λ o. in_order m g o (behind g (flag g r t b) (put_by r t w e)) (latest g l (put_by r t w e)) (put_on r (turned t e) (suc w) es)) (opened-put_by g r t w e)
    ∙ ap (λ f. in_order m g (opening g r (turned t e)) f (latest g l (put_by r t w e)) (put_on r (turned t e) (suc w) es)) (behind-put_by g r t b w e)
    ∙ rest

pub rings_in_order_lem : RingsInOrder
rings_in_order_lem g r t es first rings a =
    let off : flag g r t false ≡ false = grind (arith, nat_tests) in
    rw off at (put_on-in_order (moves g es) g r t false 0 0 es rings a (omega arith) (omega (arith, first)))

begun-append : (g k : ℕ) (xs ys : List Item) → begun g k (xs ++ ys) ≡ begun g k xs ++ begun g k ys
begun-append g k [] ys = refl
begun-append g k (x ∷ xs) ys = ap (λ zs. begins g k x ++ zs) (begun-append g k xs ys) ∙ sym (append_assoc (begins g k x) _ _)

-- the tenure k, where an entry moves g to it
abbrev comes_to : ℕ → ℕ → Table → Entry → List ℕ
comes_to g k t (move h c) = if g == h then (if k == (t g).tenure + 1 then k ∷ [] else []) else []
comes_to g k t e = []

begun-put_by : (g k r : ℕ) (t : Table) (w : ℕ) (e : Entry) → begun g k (put_by r t w e) ≡ (if r == (turned t e g).core then comes_to g k t e else [])
begun-put_by g k r t w (frame h (accepted s)) = grind (arith, nat_tests)
begun-put_by g k r t w (frame h dropped) = grind (arith, nat_tests)
begun-put_by g k r t w (tag h) = grind (arith, nat_tests)
begun-put_by g k r t w (move h c) = grind (arith, nat_tests)
begun-put_by g k r t w time = grind (arith, nat_tests)
begun-put_by g k r t w settle = grind (arith, nat_tests)

-- how often the entries move g to tenure k
abbrev comings : ℕ → ℕ → Table → List Entry → List ℕ
comings g k t [] = []
comings g k t (e ∷ es) = comes_to g k t e ++ comings g k (turned t e) es

-- an entry leaves g in its seat, or moves it to its next tenure
coming : (g k : ℕ) (t : Table) (e : Entry) (es : List Entry)
    → ((turned t e g ≡ t g) × (comes_to g k t e ≡ []) × (moves g (e ∷ es) ≡ moves g es))
    ⊎ (((turned t e g).tenure ≡ suc (t g).tenure) × (comes_to g k t e ≡ (if k == suc (t g).tenure then k ∷ [] else [])) × (moves g (e ∷ es) ≡ suc (moves g es)))
coming g k t (frame h (accepted s)) es = inl (refl, refl, refl)
coming g k t (frame h dropped) es = inl (refl, refl, refl)
coming g k t (tag h) es = inl (refl, refl, refl)
coming g k t (move h c) es = grind (arith, nat_tests)
coming g k t time es = inl (refl, refl, refl)
coming g k t settle es = inl (refl, refl, refl)

comings-over : (g k : ℕ) (t : Table) (es : List Entry) → k ≤ (t g).tenure → comings g k t es ≡ []
comings-over g k t [] p = refl
comings-over g k t (e ∷ es) p =
    elim (coming g k t e es) [
      | inl m ↦ (let rest = comings-over g k (turned t e) es (let same : (turned t e g).tenure ≡ (t g).tenure = ap (λ s. s.tenure) m.0 in omega (arith, same)) in let none = m.1 in cc)
      | inr m ↦ (let rest = comings-over g k (turned t e) es (omega (arith, m.0)) in let none = m.1 in grind (arith, nat_tests))
    ]

comings-after : (g k : ℕ) (t : Table) (es : List Entry) → (t g).tenure + moves g es < k → comings g k t es ≡ []
comings-after g k t [] p = refl
comings-after g k t (e ∷ es) p =
    elim (coming g k t e es) [
      | inl m ↦ (let rest = comings-after g k (turned t e) es (let same : (turned t e g).tenure ≡ (t g).tenure = ap (λ s. s.tenure) m.0 in omega (arith, same, m.2)) in let none = m.1 in cc)
      | inr m ↦ (let rest = comings-after g k (turned t e) es (omega (arith, m.0, m.2)) in let none = m.1 in let count = m.2 in grind (arith, nat_tests))
    ]

comings-once : (g k : ℕ) (t : Table) (es : List Entry) → (t g).tenure < k → k ≤ (t g).tenure + moves g es → comings g k t es ≡ k ∷ []
comings-once g k t [] p q = absurd (omega arith)
comings-once g k t (e ∷ es) p q =
    elim (coming g k t e es) [
      | inl m ↦ (
          let same : (turned t e g).tenure ≡ (t g).tenure = ap (λ s. s.tenure) m.0 in
          let rest = comings-once g k (turned t e) es (omega (arith, same)) (omega (arith, same, m.2)) in
          let none = m.1 in cc)
      | inr m ↦ (
          let here : k ≤ suc (t g).tenure → comings g k (turned t e) es ≡ [] = λ s. comings-over g k (turned t e) es (omega (arith, m.0)) in
          let later : suc (t g).tenure < k → comings g k (turned t e) es ≡ k ∷ [] = λ s. comings-once g k (turned t e) es (omega (arith, m.0)) (omega (arith, m.0, m.2)) in
          let first = m.1 in
          grind (arith, nat_tests))
    ]

-- both stand on one ring, or there is nothing
on_one : (r now at : ℕ) (one rest : List ℕ) → ((one ≡ []) ⊎ (now ≡ at)) → (if r == now then one else []) ++ (if r == at then rest else []) ≡ (if r == at then one ++ rest else [])
on_one r now at one rest (inl none) = grind (arith, nat_tests)
on_one r now at one rest (inr same) = grind (arith, nat_tests)

begun-put_on : (g k r : ℕ) (t : Table) (w : ℕ) (es : List Entry) → begun g k (put_on r t w es) ≡ (if r == core_in g k t es then comings g k t es else [])
begun-put_on g k r t w [] = grind (arith, nat_tests)
begun-put_on g k r t w (e ∷ es) =
    begun-append g k (put_by r t w e) (put_on r (turned t e) (suc w) es)
    ∙ ap (λ xs. xs ++ begun g k (put_on r (turned t e) (suc w) es)) (begun-put_by g k r t w e)
    ∙ ap (λ xs. (if r == (turned t e g).core then comes_to g k t e else []) ++ xs) (begun-put_on g k r (turned t e) (suc w) es)
    ∙ on_one r (turned t e g).core (core_in g k (turned t e) es) (comes_to g k t e) (comings g k (turned t e) es) (reached g k t e es)
    ∙ (elim (k == (t g).tenure) as (λ b. (k == (t g).tenure) ≡ b → (if r == core_in g k (turned t e) es then comings g k t (e ∷ es) else []) ≡ (if r == (if b then (t g).core else core_in g k (turned t e) es) then comings g k t (e ∷ es) else [])) [
      | true ↦ λ b. (let none = comings-over g k t (e ∷ es) (let at : k ≡ (t g).tenure = grind (arith, nat_tests) in omega (arith, at)) in rw none (nothing (r == core_in g k (turned t e) es) ∙ sym (nothing (r == (t g).core))))
      | false ↦ λ b. refl
    ] refl)
  where
    nothing : (q : Bool) → (if q then (let n : List ℕ = [] in n) else []) ≡ []
    nothing true = refl
    nothing false = refl

    reached : (g k : ℕ) (t : Table) (e : Entry) (es : List Entry) → (comes_to g k t e ≡ []) ⊎ ((turned t e g).core ≡ core_in g k (turned t e) es)
    reached g k t e es =
        elim (coming g k t e es) [
          | inl m ↦ inl m.1
          | inr m ↦ elim (k == suc (t g).tenure) as (λ b. (k == suc (t g).tenure) ≡ b → (comes_to g k t e ≡ []) ⊎ ((turned t e g).core ≡ core_in g k (turned t e) es)) [
            | true ↦ λ b. inr (let at : k ≡ (turned t e g).tenure = let n = m.0 in grind (arith, nat_tests) in rw at (sym (core_in-now g (turned t e) es)))
            | false ↦ λ b. inl (m.1 ∙ ap (λ q. if q then k ∷ [] else []) b)
          ] refl
        ]

test-same : (n : ℕ) → (n == n) ≡ true
test-same n = grind (arith, nat_tests)

pub pieces_begin_lem : PiecesBegin
pieces_begin_lem = record {
  begun_on = λ g k t es p q. begun-put_on g k (core_in g k t es) t 0 es ∙ (rw (test-same (core_in g k t es)) (comings-once g k t es p q));
  begun_elsewhere = λ g k r t es other. let at = begun-put_on g k r t 0 es in grind (arith, nat_tests);
  begun_first = λ g k r t es p. let at = begun-put_on g k r t 0 es in let none = comings-over g k t es p in grind (arith, nat_tests);
  begun_last = λ g k r t es p. let at = begun-put_on g k r t 0 es in let none = comings-after g k t es p in grind (arith, nat_tests);
}
