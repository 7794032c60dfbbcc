use Rattle.amqp_method.specs.Kinds.{fields_of}
use Rattle.amqp_method.specs.Views.{args_view}
use Rattle.amqp_method.proofs.FitLemmas.{fits_or_not}
use Rattle.amqp_method.proofs.methods.fits.Goals as goal

pub returns : goal.returns
returns c = fits_or_not (fields_of c.args.kind) (args_view c.args.args.now) c.first_misfit.result c.is_none.result c.is_none.ensures c.first_misfit.ensures
