-- `edits::edit` meets its contract. Assumes nothing.
use Rattle.edits.proofs.Does.{edit_t, edit_e, edit_r, edit_o, edit_d, edit_m, edit_n, edit_a, edit_z, edit_q, edit_meant}
use Rattle.edits.proofs.edit.Goals as goal

pub returns-in-AddType : goal.returns-in-AddType
returns-in-AddType c =
    let e = edit_t c.args.b.now _ c.args.c c.in-AddType.t c.in-AddType.is c.add.ensures in
    record { bytes = e; meant = edit_meant _ _ _ e }

pub returns-in-EndType : goal.returns-in-EndType
returns-in-EndType c =
    let e = edit_e c.args.b.now _ c.args.c c.in-EndType.key c.in-EndType.last c.in-EndType.is c.end_type.ensures in
    record { bytes = e; meant = edit_meant _ _ _ e }

pub returns-in-AddRule : goal.returns-in-AddRule
returns-in-AddRule c =
    let e = edit_r c.args.b.now _ c.args.c c.in-AddRule.r c.in-AddRule.is c.add-in-AddRule.ensures in
    record { bytes = e; meant = edit_meant _ _ _ e }

pub returns-in-Reorder : goal.returns-in-Reorder
returns-in-Reorder c =
    let e = edit_o c.args.b.now _ c.args.c c.in-Reorder.key c.in-Reorder.new c.in-Reorder.is c.reorder.ensures in
    record { bytes = e; meant = edit_meant _ _ _ e }

pub returns-in-DeleteRule : goal.returns-in-DeleteRule
returns-in-DeleteRule c =
    let e = edit_d c.args.b.now _ c.args.c c.in-DeleteRule.key c.in-DeleteRule.is c.delete_rule.ensures in
    record { bytes = e; meant = edit_meant _ _ _ e }

pub returns-in-AddRow : goal.returns-in-AddRow
returns-in-AddRow c =
    let e = edit_m c.args.b.now _ c.args.c c.in-AddRow.w c.in-AddRow.is c.add-in-AddRow.ensures in
    record { bytes = e; meant = edit_meant _ _ _ e }

pub returns-in-DeleteRow : goal.returns-in-DeleteRow
returns-in-DeleteRow c =
    let e = edit_n c.args.b.now _ c.args.c c.in-DeleteRow.w c.in-DeleteRow.is c.delete_row.ensures in
    record { bytes = e; meant = edit_meant _ _ _ e }

pub returns-in-AddPeriod : goal.returns-in-AddPeriod
returns-in-AddPeriod c =
    let e = edit_a c.args.b.now _ c.args.c c.in-AddPeriod.p c.in-AddPeriod.is c.add-in-AddPeriod.ensures in
    record { bytes = e; meant = edit_meant _ _ _ e }

pub returns-in-EndPeriod : goal.returns-in-EndPeriod
returns-in-EndPeriod c =
    let e = edit_z c.args.b.now _ c.args.c c.in-EndPeriod.p c.in-EndPeriod.is c.end_period.ensures in
    record { bytes = e; meant = edit_meant _ _ _ e }

pub returns-in-Ask : goal.returns-in-Ask
returns-in-Ask c = search (edit_q, edit_meant)
