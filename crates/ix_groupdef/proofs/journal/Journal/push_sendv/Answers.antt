use Rattle.std.proofs.Common.{◌≡◌, ◌≤◌, ◌+◌, ◌-◌, ℕ, refl, sym, ap, subst, ◌∙◌, List, [], ◌∷◌, ◌++◌, length, drop, arith, min}
use Rattle.std.proofs.lemmas.Grind.{common_steps}
use Rattle.ix_groupdef.specs.declared.journal.Kept.TheVariants as kept
use Rattle.ix_groupdef.specs.declared.journal.Stored.{Stored}
use Rattle.ix_groupdef.specs.declared.types.JournalEntry.{JournalEntry}
use Rattle.ix_groupdef.specs.Journal.{place_of, taken_by, sendv_of, IsStored, entries_of}
use Rattle.ix_groupdef.proofs.JournalLaws.{Begins, begins, rest_of, sendv-seen, sendv-stored}
use Rattle.ix_groupdef.proofs.journal.Journal.push_sendv.Goals as goal

pub place_of-from-requires : goal.place_of-from-requires
place_of-from-requires c = subst (λ (xs : List ℕ). c.self.inside.left ≤ length xs) (sym c.as_slice.ensures.value) c.self.invariant.within

pub invariant_of-self-2 : goal.invariant_of-self-2
invariant_of-self-2 c =
    let s : List ℕ = c.self.inside.stream.items in
    let es : List Stored = c.self.inside.entries.items in
    let bytes : List ℕ = c.args.bytes.now in
    let from : ℕ = c.place_of-from.result in
    let e : Stored = record { kept = kept.Sent from c.len-to.result; clock = c.args.clock; core = c.args.core; outputs = c.args.outputs } in
    let its_from : from ≡ place_of s c.self.inside.left bytes = c.place_of-from.ensures ∙ ap (λ xs. place_of xs c.self.inside.left bytes) c.as_slice.ensures.value in
    let b : Begins s c.self.inside.left bytes from = subst (Begins s c.self.inside.left bytes) (sym its_from) (begins s c.self.inside.left bytes c.self.invariant.within) in
    let its_skip : c.len-stored.result - from ≡ length s - from = ap (λ n. n - from) (let n : c.len-stored.result ≡ length s = grind (arith, common_steps, c.len-stored.ensures) in n) in
    let stream : c.extend_from_slice.new.self.items ≡ s ++ drop (length s - from) bytes = c.in_ok-extend_from_slice.ensures.items ∙ ap (λ xs. s ++ xs) (rest_of bytes (c.len-stored.result - from)) ∙ ap (λ n. s ++ drop n bytes) its_skip in
    let entries : c.push_reserved.new.self.items ≡ es ++ e ∷ [] = c.push_reserved.ensures.items ∙ ap (λ xs. xs ++ e ∷ []) c.in_ok-reserve.ensures.items in
    let its_to : c.len-to.result ≡ length (s ++ drop (length s - from) bytes) = (let n : c.len-to.result ≡ length c.extend_from_slice.new.self.items = grind (arith, common_steps, c.len-to.ensures) in n) ∙ ap (λ (xs : List ℕ). length xs) stream in
    let takes : c.taken_by-taken.result ≡ taken_by e.outputs = c.taken_by-taken.ensures ∙ ap taken_by c.as_slice-2.ensures in
    let its_next : c.min-self-inside.result ≡ min (from + c.taken_by-taken.result) c.len-to.result = grind (arith, common_steps, c.min-self-inside.ensures, c.saturating_add.ensures) in
    subst (λ xs. IsStored xs c.push_reserved.new.self.items c.min-self-inside.result) (sym stream)
    (subst (λ ys. IsStored (s ++ drop (length s - from) bytes) ys c.min-self-inside.result) (sym entries)
    (sendv-stored s bytes es c.self.inside.left from c.len-to.result c.taken_by-taken.result c.min-self-inside.result e b refl its_to takes its_next c.self.invariant))

pub returns-clause-ok : goal.returns-clause-ok
returns-clause-ok c =
    let s : List ℕ = c.self.inside.stream.items in
    let es : List Stored = c.self.inside.entries.items in
    let bytes : List ℕ = c.args.bytes.now in
    let from : ℕ = c.place_of-from.result in
    let e : Stored = record { kept = kept.Sent from c.len-to.result; clock = c.args.clock; core = c.args.core; outputs = c.args.outputs } in
    let its_from : from ≡ place_of s c.self.inside.left bytes = c.place_of-from.ensures ∙ ap (λ xs. place_of xs c.self.inside.left bytes) c.as_slice.ensures.value in
    let b : Begins s c.self.inside.left bytes from = subst (Begins s c.self.inside.left bytes) (sym its_from) (begins s c.self.inside.left bytes c.self.invariant.within) in
    let its_skip : c.len-stored.result - from ≡ length s - from = ap (λ n. n - from) (let n : c.len-stored.result ≡ length s = grind (arith, common_steps, c.len-stored.ensures) in n) in
    let stream : c.extend_from_slice.new.self.items ≡ s ++ drop (length s - from) bytes = c.in_ok-extend_from_slice.ensures.items ∙ ap (λ xs. s ++ xs) (rest_of bytes (c.len-stored.result - from)) ∙ ap (λ n. s ++ drop n bytes) its_skip in
    let entries : c.push_reserved.new.self.items ≡ es ++ e ∷ [] = c.push_reserved.ensures.items ∙ ap (λ xs. xs ++ e ∷ []) c.in_ok-reserve.ensures.items in
    let its_to : c.len-to.result ≡ length (s ++ drop (length s - from) bytes) = (let n : c.len-to.result ≡ length c.extend_from_slice.new.self.items = grind (arith, common_steps, c.len-to.ensures) in n) ∙ ap (λ (xs : List ℕ). length xs) stream in
    let takes : c.taken_by-taken.result ≡ taken_by e.outputs = c.taken_by-taken.ensures ∙ ap taken_by c.as_slice-2.ensures in
    let its_next : c.min-self-inside.result ≡ min (from + c.taken_by-taken.result) c.len-to.result = grind (arith, common_steps, c.min-self-inside.ensures, c.saturating_add.ensures) in
    ap (λ xs. entries_of xs c.push_reserved.new.self.items) stream
    ∙ ap (entries_of (s ++ drop (length s - from) bytes)) entries
    ∙ sendv-seen s bytes es c.self.inside.left from c.len-to.result c.taken_by-taken.result c.min-self-inside.result e b refl its_to takes its_next c.self.invariant
    ∙ ap (λ (js : List JournalEntry). js ++ record { input = sendv_of bytes; clock = c.args.clock; core = c.args.core; outputs = c.args.outputs } ∷ []) c.self.view_is
