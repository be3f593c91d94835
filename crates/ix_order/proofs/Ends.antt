-- How pieces end.
use Rattle.std.proofs.Common.{◌≡◌, ℕ, suc, ◌+◌, ◌<◌, ◌≤◌, Bool, true, false, List, [], ◌∷◌, ◌++◌, refl, sym, ap, ◌∙◌, arith, append_assoc, append-nil, ◌⊎◌, inl, inr}
use Rattle.std.specs.Prelude.{◌==◌, if◌then◌else◌, Option, Some, None}
use Rattle.std.proofs.lemmas.Bool.Decides.{nat_tests}
use Rattle.ix_order.specs.Wire.{accepted, dropped, Entry, frame, time, tag, move, settle, Item, Table, turned, put_by, put_on, RingsAre, moves}
use Rattle.ix_order.specs.Pieces.{opened_by, opening, core_in}
use Rattle.ix_order.specs.Stages.{part}
use Rattle.ix_order.specs.Ends.{opened, sends, sent, PiecesEnd}
use Rattle.ix_order.proofs.Joined.{opened-put_by, moved, core_in-now, core_in-below}
use Rattle.ix_order.proofs.Stepped.{select, part-put_on, flag, ring_part-is}

opened-append : (g : ℕ) (o : Option ℕ) (xs ys : List Item) → opened g o (xs ++ ys) ≡ opened g (opened g o xs) ys
opened-append g o [] ys = refl
opened-append g o (x ∷ xs) ys = opened-append g (opened_by g o x) xs ys

sent-append : (g k : ℕ) (o : Option ℕ) (xs ys : List Item) → sent g k o (xs ++ ys) ≡ sent g k o xs ++ sent g k (opened g o xs) ys
sent-append g k o [] ys = refl
sent-append g k o (x ∷ xs) ys = ap (λ zs. sends g k o x ++ zs) (sent-append g k (opened_by g o x) xs ys) ∙ sym (append_assoc (sends g k o x) _ _)

-- where an entry moves g
abbrev moves_to : ℕ → Entry → List ℕ
moves_to g (move h c) = if g == h then c ∷ [] else []
moves_to g e = []

sent-put_by : (g k r : ℕ) (t : Table) (w : ℕ) (e : Entry)
    → sent g k (opening g r t) (put_by r t w e) ≡ (if r == (t g).core then (if k == (t g).tenure then moves_to g e else []) else [])
sent-put_by g k r t w (frame h (accepted s)) = grind (arith, nat_tests)
sent-put_by g k r t w (frame h dropped) = grind (arith, nat_tests)
sent-put_by g k r t w (tag h) = grind (arith, nat_tests)
sent-put_by g k r t w (move h c) = grind (arith, nat_tests)
sent-put_by g k r t w time = grind (arith, nat_tests)
sent-put_by g k r t w settle = grind (arith, nat_tests)

-- where the entries move g at the end of tenure k
abbrev moved_on : ℕ → ℕ → Table → List Entry → List ℕ
moved_on g k t [] = []
moved_on g k t (e ∷ es) = (if k == (t g).tenure then moves_to g e else []) ++ moved_on g k (turned t e) es

moved_on-over : (g k : ℕ) (t : Table) (es : List Entry) → k < (t g).tenure → moved_on g k t es ≡ []
moved_on-over g k t [] p = refl
moved_on-over g k t (e ∷ es) p =
    let later : k < (turned t e g).tenure = elim (moved g t 0 e es) [ inl m ↦ grind arith | inr m ↦ grind arith ] in
    let rest = moved_on-over g k (turned t e) es later in
    grind (arith, nat_tests)

sent-put_on : (g k r : ℕ) (t : Table) (w : ℕ) (es : List Entry) → RingsAre t es
    → sent g k (opening g r t) (put_on r t w es) ≡ (if r == core_in g k t es then moved_on g k t es else [])
sent-put_on g k r t w [] rings = grind (arith, nat_tests)
sent-put_on g k r t w (e ∷ es) rings =
    sent-append g k (opening g r t) (put_by r t w e) (put_on r (turned t e) (suc w) es)
    ∙ ap (λ o. sent g k (opening g r t) (put_by r t w e) ++ sent g k o (put_on r (turned t e) (suc w) es)) (opened-put_by g r t w e)
    ∙ ap (λ xs. xs ++ sent g k (opening g r (turned t e)) (put_on r (turned t e) (suc w) es)) (sent-put_by g k r t w e)
    ∙ ap (λ xs. (if r == (t g).core then (if k == (t g).tenure then moves_to g e else []) else []) ++ xs) (sent-put_on g k r (turned t e) (suc w) es rings.1)
    ∙ select (t g).core (core_in g k (turned t e) es) r k (t g).tenure (moves_to g e) (moved_on g k (turned t e) es)
    (λ same. elim (moved g t w e es) [
      | inl m ↦ inl (let now = core_in-now g (turned t e) es in rw (same, ← m.0) (now ∙ refl))
      | inr m ↦ inr (moved_on-over g k (turned t e) es (omega (arith, m.1)))
    ])

-- an entry leaves g in its seat and moves it nowhere, or moves it to its next tenure's core
moved-to : (g : ℕ) (t : Table) (e : Entry) (es : List Entry)
    → ((turned t e g ≡ t g) × (moves_to g e ≡ []) × (moves g (e ∷ es) ≡ moves g es))
    ⊎ ((moves_to g e ≡ (turned t e g).core ∷ []) × ((turned t e g).tenure ≡ suc (t g).tenure) × (moves g (e ∷ es) ≡ suc (moves g es)))
moved-to g t (frame h (accepted s)) es = inl (refl, refl, refl)
moved-to g t (frame h dropped) es = inl (refl, refl, refl)
moved-to g t (tag h) es = inl (refl, refl, refl)
moved-to g t (move h c) es = grind (arith, nat_tests)
moved-to g t time es = inl (refl, refl, refl)
moved-to g t settle es = inl (refl, refl, refl)

test-same : (n : ℕ) → (n == n) ≡ true
test-same n = grind (arith, nat_tests)

test-less : (k n : ℕ) → n < k → (k == n) ≡ false
test-less k n p = grind (arith, nat_tests)

-- a later tenure's core, after one entry
core_in-later : (g k : ℕ) (t : Table) (e : Entry) (es : List Entry) → (t g).tenure < k → core_in g k t (e ∷ es) ≡ core_in g k (turned t e) es
core_in-later g k t e es p = rw (test-less k (t g).tenure p) refl

core_in-first : (g : ℕ) (t : Table) (es : List Entry) → core_in g (t g).tenure t es ≡ (t g).core
core_in-first g t es = core_in-now g t es

moved_on-is : (g k : ℕ) (t : Table) (es : List Entry) → (t g).tenure ≤ k → k < (t g).tenure + moves g es → moved_on g k t es ≡ core_in g (suc k) t es ∷ []
moved_on-is g k t [] p q = absurd (omega arith)
moved_on-is g k t (e ∷ es) p q =
    let next = core_in-later g (suc k) t e es (omega arith) in
    elim (moved-to g t e es) [
      | inl m ↦
          let seat = m.0 in let count = m.2 in
          let tenure : (turned t e g).tenure ≡ (t g).tenure = ap (λ s. s.tenure) seat in
          let rest = moved_on-is g k (turned t e) es (omega (arith, tenure)) (omega (arith, tenure, count)) in
          let none : (if k == (t g).tenure then moves_to g e else []) ≡ [] = let stays = m.1 in grind arith in
          ap (λ xs. xs ++ moved_on g k (turned t e) es) none ∙ rest ∙ ap (λ c. c ∷ []) (sym next)
      | inr m ↦
          let tenure = m.1 in let count = m.2 in
          elim (k == (t g).tenure) as (λ b. (k == (t g).tenure) ≡ b → (if b then moves_to g e else []) ++ moved_on g k (turned t e) es ≡ core_in g (suc k) t (e ∷ es) ∷ []) [
            | true ↦ λ b.
                let same : k ≡ (t g).tenure = grind (arith, nat_tests) in
                let over = moved_on-over g k (turned t e) es (omega (arith, tenure, same)) in
                let core : core_in g (suc k) (turned t e) es ≡ (turned t e g).core = ap (λ j. core_in g j (turned t e) es) (ap (λ j. suc j) same ∙ sym tenure) ∙ core_in-first g (turned t e) es in
                ap (λ xs. moves_to g e ++ xs) over ∙ append-nil (moves_to g e) ∙ m.0 ∙ ap (λ c. c ∷ []) (sym (next ∙ core))
            | false ↦ λ b.
                let later : suc (t g).tenure ≤ k = grind (arith, nat_tests) in
                moved_on-is g k (turned t e) es (omega (arith, tenure)) (omega (arith, tenure, count)) ∙ ap (λ c. c ∷ []) (sym next)
          ] refl
    ]

moved_on-after : (g k : ℕ) (t : Table) (es : List Entry) → (t g).tenure + moves g es ≤ k → moved_on g k t es ≡ []
moved_on-after g k t [] p = refl
moved_on-after g k t (e ∷ es) p =
    elim (moved-to g t e es) [
      | inl m ↦
          let tenure : (turned t e g).tenure ≡ (t g).tenure = ap (λ s. s.tenure) m.0 in
          let count = m.2 in
          let rest = moved_on-after g k (turned t e) es (omega (arith, tenure, count)) in
          let none : (if k == (t g).tenure then moves_to g e else []) ≡ [] = let stays = m.1 in grind arith in
          ap (λ xs. xs ++ moved_on g k (turned t e) es) none ∙ rest
      | inr m ↦
          let tenure = m.1 in let count = m.2 in
          let rest = moved_on-after g k (turned t e) es (omega (arith, tenure, count)) in
          let off = test-less k (t g).tenure (omega (arith, count)) in
          ap (λ b. (if b then moves_to g e else []) ++ moved_on g k (turned t e) es) off ∙ rest
    ]

nothing-if : (q : Bool) → (if q then (let n : List ℕ = [] in n) else []) ≡ []
nothing-if true = refl
nothing-if false = refl

opened-put_on : (g r : ℕ) (t : Table) (w : ℕ) (es : List Entry)
    → opened g (opening g r t) (put_on r t w es) ≡ (if r == core_in g ((t g).tenure + moves g es) t es then Some ((t g).tenure + moves g es) else None)
opened-put_on g r t w [] = let none : (t g).tenure + 0 ≡ (t g).tenure = omega arith in rw none refl
opened-put_on g r t w (e ∷ es) =
    opened-append g (opening g r t) (put_by r t w e) (put_on r (turned t e) (suc w) es)
    ∙ ap (λ o. opened g o (put_on r (turned t e) (suc w) es)) (opened-put_by g r t w e)
    ∙ opened-put_on g r (turned t e) (suc w) es
    ∙ (elim (moved-to g t e es) [
      | inl m ↦
          let tenure : (turned t e g).tenure ≡ (t g).tenure = ap (λ s. s.tenure) m.0 in
          let last : (turned t e g).tenure + moves g es ≡ (t g).tenure + moves g (e ∷ es) = rw (tenure, m.2) refl in
          let core : core_in g ((t g).tenure + moves g (e ∷ es)) (turned t e) es ≡ core_in g ((t g).tenure + moves g (e ∷ es)) t (e ∷ es) = last-core g ((t g).tenure + moves g (e ∷ es)) t e es m.0 in
          ap (λ n. if r == core_in g n (turned t e) es then Some n else None) last ∙ ap (λ c. if r == c then Some ((t g).tenure + moves g (e ∷ es)) else None) core
      | inr m ↦
          let tenure = m.1 in let count = m.2 in
          let last : (turned t e g).tenure + moves g es ≡ (t g).tenure + moves g (e ∷ es) = omega (arith, tenure, count) in
          let core = core_in-later g ((t g).tenure + moves g (e ∷ es)) t e es (omega (arith, count)) in
          ap (λ n. if r == core_in g n (turned t e) es then Some n else None) last ∙ ap (λ c. if r == c then Some ((t g).tenure + moves g (e ∷ es)) else None) (sym core)
    ])
  where
    last-core : (g k : ℕ) (t : Table) (e : Entry) (es : List Entry) → turned t e g ≡ t g → core_in g k (turned t e) es ≡ core_in g k t (e ∷ es)
    last-core g k t e es seat =
        elim (k == (t g).tenure) as (λ b. (k == (t g).tenure) ≡ b → core_in g k (turned t e) es ≡ (if b then (t g).core else core_in g k (turned t e) es)) [
          | true ↦ λ b.
              let same : k ≡ (turned t e g).tenure = let s : (turned t e g).tenure ≡ (t g).tenure = ap (λ z. z.tenure) seat in grind (arith, nat_tests) in
              ap (λ j. core_in g j (turned t e) es) same ∙ core_in-now g (turned t e) es ∙ ap (λ z. z.core) seat
          | false ↦ λ b. refl
        ] refl

pub pieces_end_lem : PiecesEnd
pieces_end_lem = record {
  sent_on = λ g k t es rings p q.
      sent-put_on g k (core_in g k t es) t 0 es rings ∙ (rw (test-same (core_in g k t es)) (moved_on-is g k t es p q));
  sent_elsewhere = λ g k r t es rings other.
      let off : (r == core_in g k t es) ≡ false = grind (arith, nat_tests) in
      sent-put_on g k r t 0 es rings ∙ (rw off refl);
  sent_last = λ g k r t es rings p. sent-put_on g k r t 0 es rings ∙ ap (λ xs. if r == core_in g k t es then xs else []) (moved_on-after g k t es p) ∙ nothing-if (r == core_in g k t es);
  last_open = λ g r t es. opened-put_on g r t 0 es;
  parts = λ n g k b t es core names rings.
      let c = core_in g k t es in
      let off : flag g c t false ≡ false = grind (arith, nat_tests) in
      ap (λ f. part g k b (opening g c t) f (put_on c t 0 es)) (sym off) ∙ part-put_on g k b c t false 0 es rings ∙ (rw (test-same c) refl)
      ∙ sym (ring_part-is n g k b t es core names rings);
  parts_elsewhere = λ g k r b t es rings other.
      let off : flag g r t false ≡ false = grind (arith, nat_tests) in
      let away : (r == core_in g k t es) ≡ false = grind (arith, nat_tests) in
      ap (λ f. part g k b (opening g r t) f (put_on r t 0 es)) (sym off) ∙ part-put_on g k b r t false 0 es rings ∙ (rw away refl);
  below = λ n g k t es core names. core_in-below n g k t es core names;
}
