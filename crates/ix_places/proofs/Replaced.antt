-- The replies of the groups, at whatever places their connections stand.
use Rattle.std.proofs.Common.{◌≡◌, ℕ, zero, suc, ◌+◌, ◌<◌, refl, sym, ap, subst, ◌∙◌, List, [], ◌∷◌, ◌++◌, get_or, length, map, arith}
use Rattle.std.specs.Prelude.{Contains, Option, Some, None}
use Rattle.std.specs.List.{AllByRecursion}
use Rattle.std.proofs.lemmas.List.{map-append}
use Rattle.std.proofs.lemmas.List.Elements.{Contains-append_left, Contains-append_right}
use Rattle.ix_base.specs.declared.frame.Local.{Local}
use Rattle.ix_base.specs.declared.id.WireNo.{WireNo}
use Rattle.ix_groupdef.specs.declared.types.ConnEnd.{ConnEnd}
use Rattle.ix_groupdef.specs.declared.types.GroupRecord.{GroupRecord}
use Rattle.ix_groupdef.specs.declared.types.JournalEntry.{JournalEntry}
use Rattle.ix_tcpdef.specs.declared.types.Input.{Input}
use Rattle.ix_tcpdef.specs.declared.types.Output.{Output}
use Rattle.ix_tcpdef.specs.declared.types.Output.TheVariants as outputs
use Rattle.ix_playdef.specs.Placed.{placed}
use Rattle.ix_playdef.specs.Replies.{Places, all_replies, answered, conn_replies, end_at, group_replies, input_replies, key_at, opened_replies, reply_of, stray_key, stray_reply}
use Rattle.ix_playdef.specs.declared.order.Phase.TheVariants.{Taken}
use Rattle.ix_playdef.specs.declared.order.Reply.{Reply}
use Rattle.ix_places.specs.Told.{reply_with}
use Rattle.ix_places.proofs.Distinct.{each-append, each-placed}
use Rattle.ix_places.proofs.Placing.{HasPlace}

-- ## What elements give by their places
pub map-placed : {A B C : Type 0} (f : ℕ → A → List B) (g : ℕ → A → List C) (h : B → C) → ((i : ℕ) (x : A) → g i x ≡ map h (f i x)) → (at : ℕ) (xs : List A) → placed g at xs ≡ map h (placed f at xs)
map-placed f g h each at [] = refl
map-placed f g h each at (x ∷ xs) =
    ap (λ ys. ys ++ placed g (at + 1) xs) (each at x)
    ∙ ap (λ ys. map h (f at x) ++ ys) (map-placed f g h each (at + 1) xs)
    ∙ sym (map-append h (f at x) (placed f (at + 1) xs))

-- where they give the same at each place
pub same-placed : {A B : Type 0} (f g : ℕ → A → List B) (at : ℕ) (xs : List A) → ((i : ℕ) (d : A) → i < length xs → f (at + i) (get_or xs i d) ≡ g (at + i) (get_or xs i d)) → placed f at xs ≡ placed g at xs
same-placed f g at [] each = refl
same-placed {A = A} f g at (x ∷ xs) each =
    let here : f at x ≡ g at x = ap (λ n. f n x) (let e : at ≡ at + 0 = omega arith in e) ∙ each 0 x (omega arith) ∙ ap (λ n. g n x) (let e : at + 0 ≡ at = omega arith in e) in
    ap (λ ys. ys ++ placed f (at + 1) xs) here
    ∙ ap (λ ys. g at x ++ ys) (same-placed f g (at + 1) xs (λ i d lt. shifted i d lt (each (i + 1) d (omega (arith, lt)))))
  where
    shifted : (i : ℕ) (d : A) → i < length xs → f (at + (i + 1)) (get_or (x ∷ xs) (i + 1) d) ≡ g (at + (i + 1)) (get_or (x ∷ xs) (i + 1) d)
        → f ((at + 1) + i) (get_or xs i d) ≡ g ((at + 1) + i) (get_or xs i d)
    shifted i d lt e =
        let one : i + 1 ≡ suc i = omega arith in
        let place : (at + 1) + i ≡ at + (i + 1) = omega arith in
        let found : get_or (x ∷ xs) (i + 1) d ≡ get_or xs i d = ap (λ n. get_or (x ∷ xs) n d) one in
        ap (λ n. f n (get_or xs i d)) place ∙ ap (f (at + (i + 1))) (sym found) ∙ e ∙ ap (g (at + (i + 1))) found ∙ ap (λ n. g n (get_or xs i d)) (sym place)

-- what one of them gives is among what all give
pub among-placed : {A B : Type 0} (f : ℕ → A → List B) (at : ℕ) (xs : List A) (i : ℕ) (d : A) (y : B) → i < length xs → Contains (f (at + i) (get_or xs i d)) y → Contains (placed f at xs) y
among-placed f at [] i d y lt c = absurd (omega (arith, lt))
among-placed f at (x ∷ xs) zero d y lt c =
    Contains-append_left (f at x) (placed f (at + 1) xs) y (subst (λ n. Contains (f n x) y) (let e : at + 0 ≡ at = omega arith in e) c)
among-placed f at (x ∷ xs) (suc i) d y lt c =
    Contains-append_right (f at x) (placed f (at + 1) xs) y
    (among-placed f (at + 1) xs i d y (omega (arith, lt)) (subst (λ n. Contains (f n (get_or xs i d)) y) (let e : at + suc i ≡ (at + 1) + i = omega arith in e) c))

-- ## At other places
module _ (p q : Places) (local : Local) (taken : (entry : Option WireNo) (group opening : ℕ) → q entry group Taken opening ≡ opening) where
  abbrev moved : List Reply → List Reply
  moved xs = map (reply_with q) xs

  output-moved : (group opening at : ℕ) (input : Input) (end : Option WireNo) (output : ℕ) (o : Output)
      → reply_of local (key_at q group opening at input end output) o ≡ moved (reply_of local (key_at p group opening at input end output) o)
  output-moved group opening at input end output (outputs.Frame seg) = refl
  output-moved group opening at input end output (outputs.Told told) = refl
  output-moved group opening at input end output (outputs.Ret ret) = refl

  input-moved : (group opening : ℕ) (ends : List (Option WireNo)) (at : ℕ) (e : JournalEntry) → input_replies q local group opening ends at e ≡ moved (input_replies p local group opening ends at e)
  input-moved group opening ends at e =
      map-placed (λ output o. reply_of local (key_at p group opening at e.input (end_at ends at) output) o) (λ output o. reply_of local (key_at q group opening at e.input (end_at ends at) output) o)
      (reply_with q) (λ output o. output-moved group opening at e.input (end_at ends at) output o) 0 e.outputs

  conn-moved : (group opening : ℕ) (c : ConnEnd) → conn_replies q local group opening c ≡ moved (conn_replies p local group opening c)
  conn-moved group opening c = map-placed (input_replies p local group opening c.ends) (input_replies q local group opening c.ends) (reply_with q) (input-moved group opening c.ends) 0 c.journal

  answer-moved : (group at : ℕ) (w : WireNo) (o : Option (List ℕ)) → answered (stray_key group at w) o ≡ moved (answered (stray_key group at w) o)
  answer-moved group at w None = refl
  answer-moved group at w (Some frame) =
      ap (λ n. (let xs : List Reply = record { key = record (stray_key group at w) { place = n }; frame = frame } ∷ [] in xs)) (sym (taken (Some w) group 0))

  pub group-moved : (group : ℕ) (r : GroupRecord) → group_replies q local group r ≡ moved (group_replies p local group r)
  group-moved group r =
      ap (λ xs. xs ++ placed (opened_replies q local group) 0 r.conns)
      (map-placed (stray_reply group) (stray_reply group) (reply_with q) (λ at s. answer-moved group at s.w s.reply) 0 r.strays)
      ∙ ap (λ xs. moved (placed (stray_reply group) 0 r.strays) ++ xs)
      (map-placed (opened_replies p local group) (opened_replies q local group) (reply_with q) (λ at c. conn-moved group (at + 1) c) 0 r.conns)
      ∙ sym (map-append (reply_with q) (placed (stray_reply group) 0 r.strays) (placed (opened_replies p local group) 0 r.conns))

  pub all-moved : (records : List GroupRecord) → all_replies q local records ≡ moved (all_replies p local records)
  all-moved records = map-placed (group_replies p local) (group_replies q local) (reply_with q) group-moved 0 records

-- ## Each connection stands at its place
module _ (p : Places) (local : Local) (taken : (entry : Option WireNo) (group opening : ℕ) → p entry group Taken opening ≡ opening) where
  output-stands : (group opening at : ℕ) (input : Input) (end : Option WireNo) (output : ℕ) (o : Output) → AllByRecursion (HasPlace p) (reply_of local (key_at p group opening at input end output) o)
  output-stands group opening at input end output (outputs.Frame seg) = (refl, tt)
  output-stands group opening at input end output (outputs.Told told) = tt
  output-stands group opening at input end output (outputs.Ret ret) = tt

  conn-stands : (group opening : ℕ) (c : ConnEnd) → AllByRecursion (HasPlace p) (conn_replies p local group opening c)
  conn-stands group opening c =
      each-placed (HasPlace p) (input_replies p local group opening c.ends)
      (λ at e.
      each-placed (HasPlace p) (λ output o. reply_of local (key_at p group opening at e.input (end_at c.ends at) output) o)
      (λ output o. output-stands group opening at e.input (end_at c.ends at) output o) 0 e.outputs)
      0 c.journal

  answer-stands : (group at : ℕ) (w : WireNo) (o : Option (List ℕ)) → AllByRecursion (HasPlace p) (answered (stray_key group at w) o)
  answer-stands group at w None = tt
  answer-stands group at w (Some frame) = (sym (taken (Some w) group 0), tt)

  pub all-stand : (records : List GroupRecord) → AllByRecursion (HasPlace p) (all_replies p local records)
  all-stand records =
      each-placed (HasPlace p) (group_replies p local)
      (λ group r.
      each-append (HasPlace p) (placed (stray_reply group) 0 r.strays) (placed (opened_replies p local group) 0 r.conns)
      (each-placed (HasPlace p) (stray_reply group) (λ at s. answer-stands group at s.w s.reply) 0 r.strays)
      (each-placed (HasPlace p) (opened_replies p local group) (λ at c. conn-stands group (at + 1) c) 0 r.conns))
      0 records
