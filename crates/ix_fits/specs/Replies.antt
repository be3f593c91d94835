-- The replies of a play, in their order, and their numbers.
use Rattle.std.specs.Prelude.{◌≡◌, ℕ, List, [], ◌∷◌, ◌++◌, map, option_to_list}
use Rattle.std.specs.List.{flat_map, range_with_len}
use Rattle.std.specs.List.Sorted.{IsPermutation, IsSortedByKey}
use Rattle.ix_base.specs.declared.frame.Local.{Local}
use Rattle.ix_groupdef.specs.declared.types.GroupRecord.{GroupRecord}
use Rattle.ix_lines.specs.declared.types.ConnLine.{ConnLine}
use Rattle.ix_lines.specs.declared.types.InputLine.{InputLine}
use Rattle.ix_lines.specs.declared.types.OutputLine.{OutputLine}
use Rattle.ix_lines.specs.declared.types.OutputLine.TheVariants as given
use Rattle.ix_lines.specs.declared.types.StrayLine.{StrayLine}
use Rattle.ix_pcap.specs.Written.{capture_bytes}
use Rattle.ix_playdef.specs.Order.{key_cmp, key_of, numbers_among, sent_of}
use Rattle.ix_playdef.specs.Replies.{Places, all_replies, group_replies}
use Rattle.ix_playdef.specs.declared.order.Reply.{Reply}
use Rattle.ix_wire.specs.declared.entry.Entry.{Entry}

-- ## All replies
-- the replies in their order, and the file of them
pub record AreReplies (places : Places) (local : Local) (records : List GroupRecord) (sorted : List Reply) : Type 0 where
  pub same : IsPermutation (all_replies places local records) sorted
  pub order : IsSortedByKey key_of key_cmp sorted

abbrev pub reply_file : List Entry → List Reply → List ℕ
reply_file entries sorted = capture_bytes (map (sent_of entries) sorted)

-- ## The numbers that lines name
abbrev pub output_number : OutputLine → List ℕ
output_number (given.Reply n) = n ∷ []
output_number _ = []

abbrev pub input_numbers : InputLine → List ℕ
input_numbers l = flat_map output_number l.outputs

abbrev pub conn_numbers : ConnLine → List ℕ
conn_numbers l = flat_map input_numbers l.inputs

abbrev pub stray_number : StrayLine → List ℕ
stray_number l = option_to_list l.reply

abbrev pub numbers_of : List StrayLine → List ConnLine → List ℕ
numbers_of strays conns = flat_map stray_number strays ++ flat_map conn_numbers conns

-- The lines of a group name its replies, each by the number of replies before it.
abbrev pub NamesItsReplies : Places → Local → List Reply → ℕ → GroupRecord → List StrayLine → List ConnLine → Type 0
NamesItsReplies places local sorted g r strays conns = numbers_of strays conns ≡ numbers_among sorted (group_replies places local g r)

-- Each of so many records is named once.
pub record NameEachOnce (strays : List StrayLine) (conns : List ConnLine) (n : ℕ) : Type 0 where
  pub same : IsPermutation (numbers_of strays conns) (range_with_len 0 n)
