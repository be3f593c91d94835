-- The ticks of replies.
use Rattle.std.proofs.Common.{◌≡◌, ℕ, ◌<◌, refl, sym, ap, ◌∙◌, List, [], ◌∷◌, ◌++◌, length, map, arith, Bool, true, false, inl, inr}
use Rattle.std.specs.Prelude.{Option, Some, None, nat_lt, if◌then◌else◌, slice_index}
use Rattle.std.proofs.lemmas.Bool.{cases_lt}
use Rattle.std.proofs.lemmas.Bool.Decides.{nat_tests}
use Rattle.std.proofs.lemmas.List.{get_or_past}
use Rattle.ix_base.specs.declared.id.WireNo.{WireNo}
use Rattle.ix_pcap.specs.declared.writing.Sent.{Sent}
use Rattle.ix_wire.specs.declared.entry.Entry.{Entry}
use Rattle.ix_playdef.specs.Clock.{clock_of}
use Rattle.ix_playdef.specs.declared.order.Reply.{Reply}
use Rattle.ix_playdef.specs.Order.{tick_at, tick_in, sent_of}

-- these are the clocks of these entries
pub record AreClocks (entries : List Entry) (clocks : List ℕ) : Type 0 where
  pub count : length clocks ≡ length entries
  pub each : (w : ℕ) → w < length entries → slice_index clocks w ≡ clock_of entries w

pub are-clocks : (entries : List Entry) (clocks : List ℕ) → length clocks ≡ length entries → ((w : ℕ) → w < length entries → slice_index clocks w ≡ clock_of entries w) → AreClocks entries clocks
are-clocks entries clocks count each = record { count = count; each = each }

pub ticks-same : (entries : List Entry) (clocks : List ℕ) → AreClocks entries clocks → (entry : Option WireNo) → tick_in clocks entry ≡ tick_at entries entry
ticks-same entries clocks are None = refl
ticks-same entries clocks are (Some w) = elim (cases_lt w.0 (length entries)) [
  | inl within ↦ (let yes : nat_lt w.0 (length entries) ≡ true = grind (arith, nat_tests) in are.each w.0 within ∙ sym (ap (λ (b : Bool). if b then clock_of entries w.0 else 0) yes))
  | inr past ↦ (let no : nat_lt w.0 (length entries) ≡ false = grind (arith, nat_tests) in get_or_past clocks w.0 0 (rw are.count past) ∙ sym (ap (λ (b : Bool). if b then clock_of entries w.0 else 0) no))
]

map_push : (f : Reply → Sent) (xs : List Reply) (x : Reply) → map f (xs ++ x ∷ []) ≡ map f xs ++ f x ∷ []
map_push f [] x = refl
map_push f (y ∷ xs) x = ap (λ zs. f y ∷ zs) (map_push f xs x)

pub sent-push : (entries : List Entry) (clocks : List ℕ) (xs : List Reply) (x : Reply) (sent : List Sent) → AreClocks entries clocks → sent ≡ map (sent_of entries) xs
    → sent ++ record { at = tick_in clocks x.key.entry; frame = x.frame } ∷ [] ≡ map (sent_of entries) (xs ++ x ∷ [])
sent-push entries clocks xs x sent are so =
    ap (λ n. sent ++ record { at = n; frame = x.frame } ∷ []) (ticks-same entries clocks are x.key.entry)
    ∙ ap (λ ys. ys ++ sent_of entries x ∷ []) so
    ∙ sym (map_push (sent_of entries) xs x)

pub ruleset for_sent = (are-clocks, sent-push)
