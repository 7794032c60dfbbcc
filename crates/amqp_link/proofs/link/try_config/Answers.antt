-- An end is set up with a copy, on trial.
use Rattle.std.proofs.Common.{subst}
use Rattle.amqp_model.specs.History.Negotiation.{Config}
use Rattle.amqp_model.specs.Wire.Notes.{Role}
use Rattle.amqp_link.specs.LinkSteps.{Fits, IsFaultOf}
use Rattle.amqp_link.proofs.link.try_config.Goals as goal

pub returns-in-Ok-try_end-2-clause-fits : goal.returns-in-Ok-try_end-2-clause-fits
returns-in-Ok-try_end-2-clause-fits g c =
    subst (λ (s : (role : Role) × Config role). Fits s) c.in-Ok.ensures c.in-Ok-try_end-2.ensures.fits

pub returns-in-Err-try_end-clause-fault : goal.returns-in-Err-try_end-clause-fault
returns-in-Err-try_end-clause-fault g c =
    subst (λ (s : (role : Role) × Config role). IsFaultOf s c.in-Err-try_end.fault) c.in-Ok.ensures c.in-Err-try_end.ensures.fault
