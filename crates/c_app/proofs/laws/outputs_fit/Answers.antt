use Rattle.c_app.proofs.Fits.{output_fits}
use Rattle.c_app.proofs.laws.outputs_fit.Goals as goal

pub returns : goal.returns
returns c = output_fits
