use Rattle.std.proofs.Common.{◌≡◌, true, None, drop}
use Rattle.std.specs.Prelude.{IsTrue}
use Rattle.tee_base.specs.declared.limits.TheConstants.{LEAVES}
use Rattle.store_api.specs.Ascending.{is_above_all}
use Rattle.region_plan.specs.Reading.{ReadsOnly, leaves_of}
use Rattle.object_dir.specs.Changing.{are_there}
use Rattle.object_dir.specs.Regions.{number_of, region_keeper}
use Rattle.object_dir.proofs.planned.are_all_there.Given as goal

-- whether all are there depends on the rest alone
abbrev pub invariant-loop-leaf : goal.invariant-loop-leaf
invariant-loop-leaf g l = record {
  reads : ReadsOnly (region_keeper g.V.Volume.keeper) number_of None l.fn.region l.region;
  above : is_above_all (drop l.leaf-index l.leaves) LEAVES ≡ true;
  rest : IsTrue g.V.Volume.keeper.tells_reads → are_there (leaves_of (region_keeper g.V.Volume.keeper) number_of l.fn.region)
      (drop l.leaf-index l.leaves) ≡ are_there (leaves_of (region_keeper g.V.Volume.keeper) number_of l.fn.region) l.leaves;
}
