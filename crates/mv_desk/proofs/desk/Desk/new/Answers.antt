use Rattle.std.proofs.Common.{rules, arith, All, ◌≡◌, ◌∷◌, ◌++◌, [], List, length, subst, sym, ap, ◌∙◌}
use Rattle.atomic_table.specs.Table.{opening}
use Rattle.mv_desk.specs.inside.Rule.{Kept, newcomer}
use Rattle.mv_desk.specs.declared.facts.DeskFacts.{DeskFacts}
use Rattle.mv_desk.specs.declared.facts.PassFacts.{PassFacts}
use Rattle.mv_desk.specs.Passes.{IsPassOf, new_passes}
use Rattle.mv_desk.proofs.CallerLemmas.{new_passes_own, length-new_passes}
use Rattle.mv_desk.proofs.Ends.{opens}
use Rattle.mv_desk.proofs.desk.Desk.new.Goals as goal

pub new-requires : goal.new-requires
new-requires g c =
    let o = c.of.result.value in
    let items : c.push_reserved.new.self.items ≡ o ∷ [] = c.push_reserved.ensures.items ∙ (ap (λ l. l ++ c.args.machine ∷ []) c.in-Ok-with_capacity.ensures.items ∙ ap (λ m. m ∷ []) (sym c.of.ensures)) in
    subst (λ l. Kept g.M.Sequential.step o c.args.callers (opening (0 ∷ 0 ∷ []) l (newcomer o))) (sym items) (opens g.M.Sequential.step o c.args.callers (let r = c.requires in omega arith) (let r = c.requires in omega arith))

pub returns-in-Ok-new-clause-own : goal.returns-in-Ok-new-clause-own
returns-in-Ok-new-clause-own g c =
    let desk : DeskFacts g.row.M.Denot = record { opening = c.in-Ok-new.table.shared.key.opening.value; callers = c.args.callers; table = c.in-Ok-new.table.shared.table_id } in
    let made : c.from_vec.result ≡ new_passes desk = search rules in
    subst (λ (l : List (PassFacts g.row.M.Denot g.row.M-Entry.Denot g.row.M-Reply.Denot)). All (IsPassOf desk) l) (sym made) (new_passes_own g.row.M-Entry.Denot g.row.M-Reply.Denot desk)

pub returns-in-Ok-new-clause-all : goal.returns-in-Ok-new-clause-all
returns-in-Ok-new-clause-all g c =
    let desk : DeskFacts g.row.M.Denot = record { opening = c.in-Ok-new.table.shared.key.opening.value; callers = c.args.callers; table = c.in-Ok-new.table.shared.table_id } in
    let made : c.from_vec.result ≡ new_passes desk = search rules in
    ap (λ (l : List (PassFacts g.row.M.Denot g.row.M-Entry.Denot g.row.M-Reply.Denot)). length l) made ∙ length-new_passes g.row.M-Entry.Denot g.row.M-Reply.Denot desk
