-- A run that ends with a fault, which is a refusal unless memory was wanting.
use Rattle.std.specs.Prelude.{◌≡◌, List, Result, Ok, Err, IfOk, IsErr}
use Rattle.std.proofs.Common.{◌∙◌, ap, sym, refl}
use Rattle.aw_schema.specs.declared.definition.Def.{Def}
use Rattle.dml_loop.specs.declared.fault.LoopFault.{LoopFault}
use Rattle.dml_loop.specs.declared.fault.LoopFault.TheVariants.{Arith, NoValue, Empty, TooMany, NoMemory}
use Rattle.dml_loop.specs.Fixes.{Answers}
use Rattle.ses_step.specs.declared.command.Asked.{Asked}
use Rattle.ses_step.specs.declared.command.Asked.TheVariants.{Refused}
use Rattle.ses_step.specs.declared.command.Command.{Command}
use Rattle.ses_step.specs.Meant.{given, fault_refusal}

module _ {A E : Type 0} (definitions : List Def) (own : A → Command) (run : Result A LoopFault) (fault : LoopFault) (result : Result Asked E) where
  refused-as : run ≡ Err fault → IfOk result (λ asked. asked ≡ Refused (fault_refusal definitions fault)) → IfOk result (λ asked. asked ≡ given definitions own run)
  refused-as is told = by result told
    where
      by : (r : Result Asked E) → IfOk r (λ asked. asked ≡ Refused (fault_refusal definitions fault)) → IfOk r (λ asked. asked ≡ given definitions own run)
      by (Ok asked) same = same ∙ sym (ap (given definitions own) is)
      by (Err e) same = tt

never_given : {A E : Type 0} (definitions : List Def) (own : A → Command) (run : Result A LoopFault) (result : Result Asked E) → IsErr result → IfOk result (λ asked. asked ≡ given definitions own run)
never_given definitions own run (Ok asked) short = cc
never_given definitions own run (Err e) short = tt

pub settled : {A E : Type 0} (definitions : List Def) (own : A → Command) (run : Result A LoopFault) (fault : LoopFault) (result : Result Asked E) → Answers run (Err fault)
    → IfOk result (λ asked. asked ≡ Refused (fault_refusal definitions fault)) → (fault ≡ NoMemory → IsErr result) → IfOk result (λ asked. asked ≡ given definitions own run)
settled definitions own run (Arith why) result is told short = refused-as definitions own run (Arith why) result is told
settled definitions own run (NoValue text) result is told short = refused-as definitions own run (NoValue text) result is told
settled definitions own run (Empty dimension) result is told short = refused-as definitions own run (Empty dimension) result is told
settled definitions own run TooMany result is told short = refused-as definitions own run TooMany result is told
settled definitions own run NoMemory result is told short = never_given definitions own run result (short refl)
