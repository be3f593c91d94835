use Rattle.std.proofs.Common.{◌≡◌, ◌∙◌, ℕ, List, ap, length, refl, subst, sym}
use Rattle.std.specs.Bool.{Decides}
use Rattle.std.proofs.lemmas.Bool.Decides.{Decides-at}
use Rattle.ix_fits.specs.Replies.{NameEachOnce}
use Rattle.ix_lines.specs.declared.types.ConnLine.{ConnLine}
use Rattle.ix_lines.specs.declared.types.StrayLine.{StrayLine}
use Rattle.ix_playdef.specs.Replies.{Places}
use Rattle.ix_playdef.specs.declared.order.Reply.{Reply}
use Rattle.ix_trace.specs.declared.sheet.Sheet.{Sheet}
use Rattle.ix_places.specs.Told.{places_by, told_number}
use Rattle.ix_places.proofs.DecidedLaws.{changed-short, keyed, keys-long, named-of, told-decided}
use Rattle.ix_places.proofs.filed.are_told.Goals as goal

pub set_keys-requires : goal.set_keys-requires
set_keys-requires c =
    sym (ap length c.as_slice-3.ensures.value ∙ keys-long _ c.as_slice.result.now c.in_ok-keys.keys.items (c.in_ok-keys.ensures 0) ∙ ap length c.as_slice.ensures.value)

pub are_named-named-requires-clause-long : goal.are_named-named-requires-clause-long
are_named-named-requires-clause-long c =
    ap length c.as_slice-5.ensures.value
    ∙ keys-long _ c.as_slice.result.now c.in_ok-keys.keys.items (c.in_ok-keys.ensures 0)
    ∙ ap length c.as_slice.ensures.value ∙ c.requires.long ∙ sym (ap length c.as_slice-6.ensures.value)

pub is_file-requires : goal.is_file-requires
is_file-requires c =
    let places : Places = places_by (told_number c.args.all.numbers.items c.args.all.replies.items) 0 in
    changed-short places c.args.all.replies.items c.set_keys.new.replies.items c.in_ok-sorted.sorted.items
    (c.set_keys.ensures places
    (keyed c.args.all.replies.items c.as_slice.result.now c.args.all.numbers.items c.as_slice-2.result.now c.in_ok-keys.keys.items c.as_slice-3.result.now 0 c.as_slice.ensures.value
    c.as_slice-2.ensures.value c.as_slice-3.ensures.value (c.in_ok-keys.ensures 0)))
    c.in_ok-sorted.ensures.same c.requires.short

pub returns : goal.returns
returns c = λ local records own numbered many.
    let end : ℕ = c.args.report.now.replies in
    let places : Places = places_by (told_number c.args.all.numbers.items c.args.all.replies.items) end in
    Decides-at c.are_all.result _ c.are_all.ensures
    (told-decided c.args.all.replies.items c.set_keys.new.replies.items c.in_ok-sorted.sorted.items c.args.all.numbers.items c.in_ok-keys.keys.items c.args.entries.now c.args.report.now c.args.file.now
    c.are_named-named.result c.is_count-counted.result c.in_ok-once.once c.in_ok-written.written
    (keyed c.args.all.replies.items c.as_slice.result.now c.args.all.numbers.items c.as_slice-2.result.now c.in_ok-keys.keys.items c.in_ok-keys.keys.items end c.as_slice.ensures.value
    c.as_slice-2.ensures.value refl (c.in_ok-keys.ensures end))
    (c.set_keys.ensures places
    (keyed c.args.all.replies.items c.as_slice.result.now c.args.all.numbers.items c.as_slice-2.result.now c.in_ok-keys.keys.items c.as_slice-3.result.now end c.as_slice.ensures.value
    c.as_slice-2.ensures.value c.as_slice-3.ensures.value (c.in_ok-keys.ensures end)))
    c.in_ok-sorted.ensures.same c.in_ok-sorted.ensures.order
    (named-of c.are_named-named.result c.in_ok-sorted.sorted.items c.as_slice-4.result.now c.args.all.numbers.items c.as_slice-6.result.now c.in_ok-keys.keys.items c.as_slice-5.result.now
    c.as_slice-4.ensures.value c.as_slice-6.ensures.value c.as_slice-5.ensures.value c.are_named-named.ensures)
    (subst (λ (x : Sheet). Decides c.is_count-counted.result (x.replies ≡ length c.in_ok-sorted.sorted.items)) c.report.view_is
    (subst (λ (xs : List Reply). Decides c.is_count-counted.result (c.report.inside.replies ≡ length xs)) c.as_slice-7.ensures.value c.is_count-counted.ensures))
    (subst (λ (x : Sheet). Decides c.in_ok-once.once (NameEachOnce x.strays x.conns x.replies)) c.report.view_is
    (subst (λ (xs : List ConnLine). Decides c.in_ok-once.once (NameEachOnce c.report.inside.strays xs c.report.inside.replies)) c.as_slice-9.ensures
    (subst (λ (xs : List StrayLine). Decides c.in_ok-once.once (NameEachOnce xs c.as_slice-9.result.now c.report.inside.replies)) c.as_slice-8.ensures c.in_ok-once.ensures)))
    c.in_ok-written.ensures local records own numbered many)
