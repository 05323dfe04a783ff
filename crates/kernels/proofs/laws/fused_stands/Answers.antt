use Rattle.kernels.proofs.Fusing.{trees_fuse}
use Rattle.kernels.proofs.laws.fused_stands.Goals as goal

pub returns : goal.returns
returns c = trees_fuse
