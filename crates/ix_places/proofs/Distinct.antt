-- No two replies of a play have one key.
use Rattle.std.proofs.Common.{◌≡◌, ℕ, ◌+◌, ◌-◌, ◌≤◌, refl, ap, ◌∙◌, Bool, false, true≢false, List, [], ◌∷◌, ◌++◌, arith}
use Rattle.std.specs.Prelude.{◌==◌, Option, Some, None}
use Rattle.std.specs.Cmp.{unsigned_tied}
use Rattle.std.specs.List.{AllByRecursion, IsDistinct}
use Rattle.std.specs.Option.{option_cmp}
use Rattle.std.specs.Ordering.{is_eq, nat_cmp, ordering_then}
use Rattle.std.specs.declared.cmp.Ordering.{Ordering}
use Rattle.std.specs.declared.cmp.Ordering.TheVariants.{Less, Equal, Greater}
use Rattle.std.proofs.lemmas.Bool.Decides.{nat_tests}
use Rattle.ix_base.specs.declared.frame.Local.{Local}
use Rattle.ix_base.specs.declared.id.WireNo.{WireNo}
use Rattle.ix_groupdef.specs.declared.types.ConnEnd.{ConnEnd}
use Rattle.ix_groupdef.specs.declared.types.GroupRecord.{GroupRecord}
use Rattle.ix_groupdef.specs.declared.types.JournalEntry.{JournalEntry}
use Rattle.ix_groupdef.specs.declared.types.Stray.{Stray}
use Rattle.ix_tcpdef.specs.declared.types.Output.{Output}
use Rattle.ix_tcpdef.specs.declared.types.Output.TheVariants as outputs
use Rattle.ix_playdef.specs.declared.order.Reply.{Reply}
use Rattle.ix_playdef.specs.declared.order.ReplyKey.{ReplyKey}
use Rattle.ix_playdef.specs.Order.{key_cmp, rank, same_key, wire_cmp}
use Rattle.ix_playdef.specs.Placed.{placed}
use Rattle.ix_playdef.specs.Replies.{Places, all_replies, answered, conn_replies, end_at, group_replies, input_replies, key_at, opened_replies, reply_of, stray_key, stray_reply}

-- ## What elements give by their places
pub each-append : {B : Type 0} (P : B → Type 0) (xs ys : List B) → AllByRecursion P xs → AllByRecursion P ys → AllByRecursion P (xs ++ ys)
each-append P [] ys a b = b
each-append P (x ∷ xs) ys a b = (a.0, each-append P xs ys a.1 b)

each-from : {B : Type 0} (P Q : B → Type 0) → ((x : B) → P x → Q x) → (xs : List B) → AllByRecursion P xs → AllByRecursion Q xs
each-from P Q gives [] a = tt
each-from P Q gives (x ∷ xs) a = (gives x a.0, each-from P Q gives xs a.1)

pub each-placed : {A B : Type 0} (P : B → Type 0) (f : ℕ → A → List B) → ((i : ℕ) (x : A) → AllByRecursion P (f i x)) → (at : ℕ) (xs : List A) → AllByRecursion P (placed f at xs)
each-placed P f each at [] = tt
each-placed P f each at (x ∷ xs) = each-append P (f at x) (placed f (at + 1) xs) (each at x) (each-placed P f each (at + 1) xs)

-- those of one list differ from those of another
across : {B : Type 0} (same : B → B → Bool) (P Q : B → Type 0) → ((x y : B) → P x → Q y → same x y ≡ false) → (xs ys : List B)
    → AllByRecursion P xs → AllByRecursion Q ys → AllByRecursion (λ x. AllByRecursion (λ y. same x y ≡ false) ys) xs
across same P Q differ [] ys a b = tt
across same P Q differ (x ∷ xs) ys a b = (each-from Q (λ y. same x y ≡ false) (λ y q. differ x y a.0 q) ys b, across same P Q differ xs ys a.1 b)

distinct-append : {B : Type 0} (same : B → B → Bool) (xs ys : List B) → IsDistinct same xs → IsDistinct same ys
    → AllByRecursion (λ x. AllByRecursion (λ y. same x y ≡ false) ys) xs → IsDistinct same (xs ++ ys)
unfolding IsDistinct
distinct-append same [] ys a b c = b
distinct-append same (x ∷ xs) ys a b c = (each-append (λ y. same x y ≡ false) xs ys a.0 c.0, distinct-append same xs ys a.1 b c.1)

-- Where the place that gave an element can be read off it, elements of different places differ.
module _ {A B : Type 0} (same : B → B → Bool) (place : B → ℕ) (differ : (x y : B) → (place x ≡ place y → ⊥) → same x y ≡ false) (f : ℕ → A → List B) (tells : (i : ℕ) (x : A) → AllByRecursion (λ b. place b ≡ i) (f i x)) where
  placed-behind : (at : ℕ) (xs : List A) → AllByRecursion (λ b. at ≤ place b) (placed f at xs)
  placed-behind at [] = tt
  placed-behind at (x ∷ xs) =
      each-append (λ b. at ≤ place b) (f at x) (placed f (at + 1) xs)
      (each-from (λ b. place b ≡ at) (λ b. at ≤ place b) (λ b e. omega arith) (f at x) (tells at x))
      (each-from (λ b. at + 1 ≤ place b) (λ b. at ≤ place b) (λ b le. omega arith) (placed f (at + 1) xs) (placed-behind (at + 1) xs))

  placed-distinct : ((i : ℕ) (x : A) → IsDistinct same (f i x)) → (at : ℕ) (xs : List A) → IsDistinct same (placed f at xs)
  unfolding IsDistinct
  placed-distinct each at [] = tt
  placed-distinct each at (x ∷ xs) =
      distinct-append same (f at x) (placed f (at + 1) xs) (each at x) (placed-distinct each (at + 1) xs)
      (across same (λ b. place b ≡ at) (λ b. at + 1 ≤ place b) (λ a b here behind. differ a b (λ e. omega arith)) (f at x) (placed f (at + 1) xs) (tells at x) (placed-behind (at + 1) xs))

-- ## Keys that differ in one field
first-differs : (o p : Ordering) → is_eq o ≡ false → is_eq (ordering_then o p) ≡ false
first-differs Less p e = refl
first-differs Equal p e = absurd (true≢false e)
first-differs Greater p e = refl

rest-differs : (o p : Ordering) → is_eq p ≡ false → is_eq (ordering_then o p) ≡ false
rest-differs Less p e = refl
rest-differs Equal p e = e
rest-differs Greater p e = refl

numbers-differ : (m n : ℕ) → (m ≡ n → ⊥) → is_eq (nat_cmp m n) ≡ false
numbers-differ m n apart = unsigned_tied m n ∙ (let no : (m == n) ≡ false = grind (arith, nat_tests, apart) in no)

-- what the order asks behind a field
abbrev behind_input : ReplyKey → ReplyKey → Ordering
behind_input a b = nat_cmp a.output b.output

abbrev behind_opening : ReplyKey → ReplyKey → Ordering
behind_opening a b = ordering_then (nat_cmp a.input b.input) (behind_input a b)

abbrev behind_place : ReplyKey → ReplyKey → Ordering
behind_place a b = ordering_then (nat_cmp a.opening b.opening) (behind_opening a b)

abbrev behind_phase : ReplyKey → ReplyKey → Ordering
behind_phase a b = ordering_then (nat_cmp a.place b.place) (behind_place a b)

abbrev behind_group : ReplyKey → ReplyKey → Ordering
behind_group a b = ordering_then (nat_cmp (rank a.phase) (rank b.phase)) (behind_phase a b)

abbrev behind_entry : ReplyKey → ReplyKey → Ordering
behind_entry a b = ordering_then (nat_cmp a.group.0 b.group.0) (behind_group a b)

by-entry : (a b : ReplyKey) → is_eq (behind_entry a b) ≡ false → is_eq (key_cmp a b) ≡ false
by-entry a b e = rest-differs (option_cmp wire_cmp a.entry b.entry) (behind_entry a b) e

by-phase : (a b : ReplyKey) → is_eq (behind_phase a b) ≡ false → is_eq (key_cmp a b) ≡ false
by-phase a b e = by-entry a b (rest-differs (nat_cmp a.group.0 b.group.0) (behind_group a b) (rest-differs (nat_cmp (rank a.phase) (rank b.phase)) (behind_phase a b) e))

by-place : (a b : ReplyKey) → is_eq (behind_place a b) ≡ false → is_eq (key_cmp a b) ≡ false
by-place a b e = by-phase a b (rest-differs (nat_cmp a.place b.place) (behind_place a b) e)

other-group : (r s : Reply) → (r.key.group.0 ≡ s.key.group.0 → ⊥) → same_key r s ≡ false
other-group r s apart = by-entry r.key s.key (first-differs (nat_cmp r.key.group.0 s.key.group.0) (behind_group r.key s.key) (numbers-differ r.key.group.0 s.key.group.0 apart))

other-opening : (r s : Reply) → (r.key.opening ≡ s.key.opening → ⊥) → same_key r s ≡ false
other-opening r s apart = by-place r.key s.key (first-differs (nat_cmp r.key.opening s.key.opening) (behind_opening r.key s.key) (numbers-differ r.key.opening s.key.opening apart))

other-input : (r s : Reply) → (r.key.input ≡ s.key.input → ⊥) → same_key r s ≡ false
other-input r s apart =
    by-place r.key s.key
    (rest-differs (nat_cmp r.key.opening s.key.opening) (behind_opening r.key s.key)
    (first-differs (nat_cmp r.key.input s.key.input) (behind_input r.key s.key) (numbers-differ r.key.input s.key.input apart)))

other-output : (r s : Reply) → (r.key.output ≡ s.key.output → ⊥) → same_key r s ≡ false
other-output r s apart =
    by-place r.key s.key
    (rest-differs (nat_cmp r.key.opening s.key.opening) (behind_opening r.key s.key)
    (rest-differs (nat_cmp r.key.input s.key.input) (behind_input r.key s.key) (numbers-differ r.key.output s.key.output apart)))

-- ## An output, and the answer to a stray
abbrev HasKey : ReplyKey → Reply → Type 0
HasKey key r = r.key ≡ key

output-key : (local : Local) (key : ReplyKey) (o : Output) → AllByRecursion (HasKey key) (reply_of local key o)
output-key local key (outputs.Frame seg) = (refl, tt)
output-key local key (outputs.Told told) = tt
output-key local key (outputs.Ret ret) = tt

output-distinct : (local : Local) (key : ReplyKey) (o : Output) → IsDistinct same_key (reply_of local key o)
unfolding IsDistinct
output-distinct local key (outputs.Frame seg) = (tt, tt)
output-distinct local key (outputs.Told told) = tt
output-distinct local key (outputs.Ret ret) = tt

answer-key : (key : ReplyKey) (frame : Option (List ℕ)) → AllByRecursion (HasKey key) (answered key frame)
answer-key key None = tt
answer-key key (Some frame) = (refl, tt)

answer-distinct : (key : ReplyKey) (frame : Option (List ℕ)) → IsDistinct same_key (answered key frame)
unfolding IsDistinct
answer-distinct key None = tt
answer-distinct key (Some frame) = (tt, tt)

-- ## An input
abbrev IsOfInput : ℕ → ℕ → ℕ → Reply → Type 0
IsOfInput group opening at r = (r.key.group.0 ≡ group) × (r.key.opening ≡ opening) × (r.key.input ≡ at)

input-keys : (places : Places) (local : Local) (group opening : ℕ) (ends : List (Option WireNo)) (at : ℕ) (e : JournalEntry) → AllByRecursion (IsOfInput group opening at) (input_replies places local group opening ends at e)
input-keys places local group opening ends at e =
    each-placed (IsOfInput group opening at) (λ output o. reply_of local (key_at places group opening at e.input (end_at ends at) output) o)
    (λ output o.
    let key : ReplyKey = key_at places group opening at e.input (end_at ends at) output in
    each-from (HasKey key) (IsOfInput group opening at) (λ r is. (ap (λ (k : ReplyKey). k.group.0) is, ap (λ (k : ReplyKey). k.opening) is, ap (λ (k : ReplyKey). k.input) is))
    (reply_of local key o) (output-key local key o)) 0 e.outputs

input-distinct : (places : Places) (local : Local) (group opening : ℕ) (ends : List (Option WireNo)) (at : ℕ) (e : JournalEntry) → IsDistinct same_key (input_replies places local group opening ends at e)
input-distinct places local group opening ends at e =
    placed-distinct same_key (λ r. r.key.output) other-output (λ output o. reply_of local (key_at places group opening at e.input (end_at ends at) output) o)
    (λ output o.
    let key : ReplyKey = key_at places group opening at e.input (end_at ends at) output in
    each-from (HasKey key) (λ r. r.key.output ≡ output) (λ r is. ap (λ (k : ReplyKey). k.output) is) (reply_of local key o) (output-key local key o))
    (λ output o. output-distinct local (key_at places group opening at e.input (end_at ends at) output) o) 0 e.outputs

-- ## A connection
abbrev IsOfConn : ℕ → ℕ → Reply → Type 0
IsOfConn group opening r = (r.key.group.0 ≡ group) × (r.key.opening ≡ opening)

conn-keys : (places : Places) (local : Local) (group opening : ℕ) (c : ConnEnd) → AllByRecursion (IsOfConn group opening) (conn_replies places local group opening c)
conn-keys places local group opening c =
    each-placed (IsOfConn group opening) (input_replies places local group opening c.ends)
    (λ at e.
    each-from (IsOfInput group opening at) (IsOfConn group opening) (λ r is. (is.0, is.1)) (input_replies places local group opening c.ends at e) (input-keys places local group opening c.ends at e))
    0 c.journal

conn-distinct : (places : Places) (local : Local) (group opening : ℕ) (c : ConnEnd) → IsDistinct same_key (conn_replies places local group opening c)
conn-distinct places local group opening c =
    placed-distinct same_key (λ r. r.key.input) other-input (input_replies places local group opening c.ends)
    (λ at e.
    each-from (IsOfInput group opening at) (λ r. r.key.input ≡ at) (λ r is. is.2) (input_replies places local group opening c.ends at e) (input-keys places local group opening c.ends at e))
    (input-distinct places local group opening c.ends) 0 c.journal

-- ## A group
abbrev IsOfGroup : ℕ → Reply → Type 0
IsOfGroup group r = r.key.group.0 ≡ group

stray-keys : (group at : ℕ) (s : Stray) → AllByRecursion (IsOfInput group 0 at) (stray_reply group at s)
stray-keys group at s =
    each-from (HasKey (stray_key group at s.w)) (IsOfInput group 0 at)
    (λ r is. (ap (λ (k : ReplyKey). k.group.0) is, ap (λ (k : ReplyKey). k.opening) is, ap (λ (k : ReplyKey). k.input) is))
    (stray_reply group at s) (answer-key (stray_key group at s.w) s.reply)

strays-keys : (group : ℕ) (strays : List Stray) → AllByRecursion (IsOfConn group 0) (placed (stray_reply group) 0 strays)
strays-keys group strays =
    each-placed (IsOfConn group 0) (stray_reply group)
    (λ at s. each-from (IsOfInput group 0 at) (IsOfConn group 0) (λ r is. (is.0, is.1)) (stray_reply group at s) (stray-keys group at s)) 0 strays

strays-distinct : (group : ℕ) (strays : List Stray) → IsDistinct same_key (placed (stray_reply group) 0 strays)
strays-distinct group strays =
    placed-distinct same_key (λ r. r.key.input) other-input (stray_reply group)
    (λ at s. each-from (IsOfInput group 0 at) (λ r. r.key.input ≡ at) (λ r is. is.2) (stray_reply group at s) (stray-keys group at s))
    (λ at s. answer-distinct (stray_key group at s.w) s.reply) 0 strays

-- Connections are counted from 1, strays have 0.
abbrev IsOpened : ℕ → Reply → Type 0
IsOpened group r = (r.key.group.0 ≡ group) × (1 ≤ r.key.opening)

conns-keys : (places : Places) (local : Local) (group : ℕ) (conns : List ConnEnd) → AllByRecursion (IsOpened group) (placed (opened_replies places local group) 0 conns)
conns-keys places local group conns =
    each-placed (IsOpened group) (opened_replies places local group)
    (λ at c.
    each-from (IsOfConn group (at + 1)) (IsOpened group) (λ r is. (is.0, let opened : 1 ≤ r.key.opening = omega (arith, is.1) in opened))
    (opened_replies places local group at c) (conn-keys places local group (at + 1) c))
    0 conns

conns-distinct : (places : Places) (local : Local) (group : ℕ) (conns : List ConnEnd) → IsDistinct same_key (placed (opened_replies places local group) 0 conns)
conns-distinct places local group conns =
    placed-distinct same_key (λ r. r.key.opening - 1) (λ r s apart. other-opening r s (λ e. apart (ap (λ n. n - 1) e))) (opened_replies places local group)
    (λ at c.
    each-from (IsOfConn group (at + 1)) (λ r. r.key.opening - 1 ≡ at) (λ r is. let place : r.key.opening - 1 ≡ at = omega (arith, is.1) in place)
    (opened_replies places local group at c) (conn-keys places local group (at + 1) c))
    (λ at c. conn-distinct places local group (at + 1) c) 0 conns

group-keys : (places : Places) (local : Local) (group : ℕ) (g : GroupRecord) → AllByRecursion (IsOfGroup group) (group_replies places local group g)
group-keys places local group g =
    let strays : List Reply = placed (stray_reply group) 0 g.strays in
    let conns : List Reply = placed (opened_replies places local group) 0 g.conns in
    each-append (IsOfGroup group) strays conns
    (each-from (IsOfConn group 0) (IsOfGroup group) (λ r is. is.0) strays (strays-keys group g.strays))
    (each-from (IsOpened group) (IsOfGroup group) (λ r is. is.0) conns (conns-keys places local group g.conns))

group-distinct : (places : Places) (local : Local) (group : ℕ) (g : GroupRecord) → IsDistinct same_key (group_replies places local group g)
group-distinct places local group g =
    let strays : List Reply = placed (stray_reply group) 0 g.strays in
    let conns : List Reply = placed (opened_replies places local group) 0 g.conns in
    distinct-append same_key strays conns (strays-distinct group g.strays) (conns-distinct places local group g.conns)
    (across same_key (IsOfConn group 0) (IsOpened group) (λ r s stray conn. other-opening r s (λ e. omega (arith, stray.1, conn.1))) strays conns
    (strays-keys group g.strays) (conns-keys places local group g.conns))

-- ## All groups
pub all-distinct : (places : Places) (local : Local) (records : List GroupRecord) → IsDistinct same_key (all_replies places local records)
all-distinct places local records =
    placed-distinct same_key (λ r. r.key.group.0) other-group (group_replies places local) (group-keys places local) (group-distinct places local) 0 records
