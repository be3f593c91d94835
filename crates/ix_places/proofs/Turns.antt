-- What the order of keys says, field by field.
use Rattle.std.proofs.Common.{◌≡◌, ℕ, ◌<◌, ◌⊎◌, inl, inr, refl, sym, ap, subst, ◌∙◌, true≢false}
use Rattle.std.specs.Prelude.{cond, ◌==◌, Option, Some, None}
use Rattle.std.specs.Cmp.{nat_cmp_total}
use Rattle.std.specs.Option.{option_cmp}
use Rattle.std.specs.Ordering.{MatchOrdering, is_lt, is_gt, nat_cmp, ordering_then}
use Rattle.std.specs.declared.cmp.Ordering.{Ordering}
use Rattle.std.specs.declared.cmp.Ordering.TheVariants.{Less, Equal, Greater}
use Rattle.std.proofs.lemmas.Bool.{lt-ltb}
use Rattle.std.proofs.lemmas.Cmp.{ranked, tied_itself}
use Rattle.ix_base.specs.declared.id.WireNo.{WireNo}
use Rattle.ix_playdef.specs.Order.{key_cmp, rank, wire_cmp}
use Rattle.ix_playdef.specs.declared.order.Phase.{Phase}
use Rattle.ix_playdef.specs.declared.order.Phase.TheVariants.{Connect, Taken, Timer, Flush}
use Rattle.ix_playdef.specs.declared.order.ReplyKey.{ReplyKey}
use Rattle.ix_places.specs.Told.{turn_cmp}
use Rattle.ix_places.specs.declared.turn.Turn.{Turn}

-- ## Numbers
pub nat-equal : (m n : ℕ) → nat_cmp m n ≡ Equal → m ≡ n
nat-equal m n e = subst (λ (o : Ordering). MatchOrdering o (m < n) (m ≡ n) (n < m)) e (ranked m n (nat_cmp m n) refl)

pub nat-less : (m n : ℕ) → nat_cmp m n ≡ Less → m < n
nat-less m n e = subst (λ (o : Ordering). MatchOrdering o (m < n) (m ≡ n) (n < m)) e (ranked m n (nat_cmp m n) refl)

pub less-nat : (m n : ℕ) → m < n → nat_cmp m n ≡ Less
less-nat m n lt = ap (λ b. cond b Less (cond (m == n) Equal Greater)) (lt-ltb m n lt)

pub nat-tied : (m n : ℕ) → m ≡ n → nat_cmp m n ≡ Equal
nat-tied m n e = ap (nat_cmp m) (sym e) ∙ tied_itself nat_cmp_total m

-- ## Orders one behind the other
less-equal : {A : Type 0} (o : Ordering) → o ≡ Less → o ≡ Equal → A
less-equal o e f = absurd (true≢false (ap is_lt (sym e ∙ f)))

greater-equal : {A : Type 0} (o : Ordering) → o ≡ Greater → o ≡ Equal → A
greater-equal o e f = absurd (true≢false (ap is_gt (sym e ∙ f)))

greater-less : {A : Type 0} (o : Ordering) → o ≡ Greater → o ≡ Less → A
greater-less o e f = absurd (true≢false (ap is_gt (sym e ∙ f)))

then-equal : (o p : Ordering) → ordering_then o p ≡ Equal → (o ≡ Equal) × (p ≡ Equal)
then-equal Less p e = less-equal Less refl e
then-equal Equal p e = (refl, e)
then-equal Greater p e = greater-equal Greater refl e

pub then-less : (o p : Ordering) → ordering_then o p ≡ Less → (o ≡ Less) ⊎ ((o ≡ Equal) × (p ≡ Less))
then-less Less p e = inl refl
then-less Equal p e = inr (refl, e)
then-less Greater p e = greater-less Greater refl e

pub first-less : (o p : Ordering) → o ≡ Less → ordering_then o p ≡ Less
first-less o p e = ap (λ x. ordering_then x p) e

pub then-behind : (o p : Ordering) → o ≡ Equal → ordering_then o p ≡ p
then-behind o p e = ap (λ x. ordering_then x p) e

then-two : (p q r : Ordering) → ordering_then p (ordering_then q r) ≡ ordering_then (ordering_then p q) r
then-two Less q r = refl
then-two Equal q r = refl
then-two Greater q r = refl

then-three : (o p q r : Ordering) → ordering_then o (ordering_then p (ordering_then q r)) ≡ ordering_then (ordering_then o (ordering_then p q)) r
then-three Less p q r = refl
then-three Equal p q r = then-two p q r
then-three Greater p q r = refl

-- ## Keys: the entry, the group and the phase, then the place, then the rest
abbrev pub block_cmp : ReplyKey → ReplyKey → Ordering
block_cmp a b =
    ordering_then (option_cmp wire_cmp a.entry b.entry) (ordering_then (nat_cmp a.group.0 b.group.0) (nat_cmp (rank a.phase) (rank b.phase)))

abbrev pub rest_cmp : ReplyKey → ReplyKey → Ordering
rest_cmp a b = ordering_then (nat_cmp a.opening b.opening) (ordering_then (nat_cmp a.input b.input) (nat_cmp a.output b.output))

pub key-split : (a b : ReplyKey) → key_cmp a b ≡ ordering_then (block_cmp a b) (ordering_then (nat_cmp a.place b.place) (rest_cmp a b))
key-split a b =
    then-three (option_cmp wire_cmp a.entry b.entry) (nat_cmp a.group.0 b.group.0) (nat_cmp (rank a.phase) (rank b.phase))
    (ordering_then (nat_cmp a.place b.place) (rest_cmp a b))

pub record SameBlock (a b : ReplyKey) : Type 0 where
  pub entry : a.entry ≡ b.entry
  pub group : a.group.0 ≡ b.group.0
  pub phase : a.phase ≡ b.phase

entry-equal : (a b : Option WireNo) → option_cmp wire_cmp a b ≡ Equal → a ≡ b
entry-equal None None e = refl
entry-equal None (Some w) e = less-equal Less refl e
entry-equal (Some v) None e = greater-equal Greater refl e
entry-equal (Some v) (Some w) e = ap (λ (n : ℕ). (let o : Option WireNo = Some (record { 0 = n }) in o)) (nat-equal v.0 w.0 e)

entry-tied : (a b : Option WireNo) → a ≡ b → option_cmp wire_cmp a b ≡ Equal
entry-tied a b e = ap (option_cmp wire_cmp a) (sym e) ∙ itself a
  where
    itself : (o : Option WireNo) → option_cmp wire_cmp o o ≡ Equal
    itself None = refl
    itself (Some w) = tied_itself nat_cmp_total w.0

phase-equal : (a b : Phase) → nat_cmp (rank a) (rank b) ≡ Equal → a ≡ b
phase-equal Connect Connect e = refl
phase-equal Connect Taken e = less-equal Less refl e
phase-equal Connect Timer e = less-equal Less refl e
phase-equal Connect Flush e = less-equal Less refl e
phase-equal Taken Connect e = greater-equal Greater refl e
phase-equal Taken Taken e = refl
phase-equal Taken Timer e = less-equal Less refl e
phase-equal Taken Flush e = less-equal Less refl e
phase-equal Timer Connect e = greater-equal Greater refl e
phase-equal Timer Taken e = greater-equal Greater refl e
phase-equal Timer Timer e = refl
phase-equal Timer Flush e = less-equal Less refl e
phase-equal Flush Connect e = greater-equal Greater refl e
phase-equal Flush Taken e = greater-equal Greater refl e
phase-equal Flush Timer e = greater-equal Greater refl e
phase-equal Flush Flush e = refl

pub block-same : (a b : ReplyKey) → block_cmp a b ≡ Equal → SameBlock a b
block-same a b e =
    let first = then-equal (option_cmp wire_cmp a.entry b.entry) (ordering_then (nat_cmp a.group.0 b.group.0) (nat_cmp (rank a.phase) (rank b.phase))) e in
    let second = then-equal (nat_cmp a.group.0 b.group.0) (nat_cmp (rank a.phase) (rank b.phase)) first.1 in
    record {
      entry = entry-equal a.entry b.entry first.0;
      group = nat-equal a.group.0 b.group.0 second.0;
      phase = phase-equal a.phase b.phase second.1;
    }

pub same-block : (a b : ReplyKey) → SameBlock a b → block_cmp a b ≡ Equal
same-block a b same =
    then-behind (option_cmp wire_cmp a.entry b.entry) (ordering_then (nat_cmp a.group.0 b.group.0) (nat_cmp (rank a.phase) (rank b.phase))) (entry-tied a.entry b.entry same.entry)
    ∙ then-behind (nat_cmp a.group.0 b.group.0) (nat_cmp (rank a.phase) (rank b.phase)) (nat-tied a.group.0 b.group.0 same.group)
    ∙ nat-tied (rank a.phase) (rank b.phase) (ap rank same.phase)

-- ## Turns
turn-with : Option WireNo → ℕ → Phase → ℕ → Turn
turn-with entry group phase opening = record { entry = entry; group = record { 0 = group }; phase = phase; opening = opening }

pub turn-same : (s t : Turn) → turn_cmp s t ≡ Equal → s ≡ t
unfolding turn-with
turn-same s t e =
    let first = then-equal (option_cmp wire_cmp s.entry t.entry) (ordering_then (nat_cmp s.group.0 t.group.0) (ordering_then (nat_cmp (rank s.phase) (rank t.phase)) (nat_cmp s.opening t.opening))) e in
    let second = then-equal (nat_cmp s.group.0 t.group.0) (ordering_then (nat_cmp (rank s.phase) (rank t.phase)) (nat_cmp s.opening t.opening)) first.1 in
    let third = then-equal (nat_cmp (rank s.phase) (rank t.phase)) (nat_cmp s.opening t.opening) second.1 in
    ap (λ x. turn-with x s.group.0 s.phase s.opening) (entry-equal s.entry t.entry first.0)
    ∙ ap (λ x. turn-with t.entry x s.phase s.opening) (nat-equal s.group.0 t.group.0 second.0)
    ∙ ap (λ x. turn-with t.entry t.group.0 x s.opening) (phase-equal s.phase t.phase third.0)
    ∙ ap (λ x. turn-with t.entry t.group.0 t.phase x) (nat-equal s.opening t.opening third.1)

pub turn-tied : (s t : Turn) → s ≡ t → turn_cmp s t ≡ Equal
turn-tied s t e =
    then-behind (option_cmp wire_cmp s.entry t.entry) (ordering_then (nat_cmp s.group.0 t.group.0) (ordering_then (nat_cmp (rank s.phase) (rank t.phase)) (nat_cmp s.opening t.opening)))
    (entry-tied s.entry t.entry (ap (λ (x : Turn). x.entry) e))
    ∙ then-behind (nat_cmp s.group.0 t.group.0) (ordering_then (nat_cmp (rank s.phase) (rank t.phase)) (nat_cmp s.opening t.opening))
    (nat-tied s.group.0 t.group.0 (ap (λ (x : Turn). x.group.0) e))
    ∙ then-behind (nat_cmp (rank s.phase) (rank t.phase)) (nat_cmp s.opening t.opening) (nat-tied (rank s.phase) (rank t.phase) (ap (λ (x : Turn). rank x.phase) e))
    ∙ nat-tied s.opening t.opening (ap (λ (x : Turn). x.opening) e)
