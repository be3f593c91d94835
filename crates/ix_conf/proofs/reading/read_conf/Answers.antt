use Rattle.std.proofs.Common.{sym, ◌∙◌, rules}
use Rattle.toml.specs.View.{table_view}
use Rattle.ix_conf.proofs.ReadLaws.{conf_of-unknown, conf_of-keys, conf_of-none}
use Rattle.ix_conf.proofs.reading.read_conf.Goals as goal

pub returns-then-is_unknown_in_members : goal.returns-then-is_unknown_in_members
returns-then-is_unknown_in_members c =
    conf_of-unknown c.args.bytes.now (table_view c.in-Ok.table) c.in-Ok.ensures.ok.0 c.in-Ok.ensures.ok.1
    (sym c.is_unknown_in_members.ensures ∙ c.if-is_unknown_in_members.true)

pub returns-else-is_unknown_in_members : goal.returns-else-is_unknown_in_members
returns-else-is_unknown_in_members c =
    conf_of-keys c.args.bytes.now (table_view c.in-Ok.table) _ c.in-Ok.ensures.ok.0 c.in-Ok.ensures.ok.1
    (sym c.is_unknown_in_members.ensures ∙ c.if-is_unknown_in_members.false) c.keys_of.ensures

pub returns-else-is_memory : goal.returns-else-is_memory
returns-else-is_memory c = conf_of-none c.args.bytes.now (c.in-Err.ensures.refused (search rules))
