use Rattle.lane_kernels.proofs.AddedLanes.{new_long, nears_long, new_here, new_others, nears_counted}
use Rattle.lane_kernels.proofs.adding.add_four.Goals as goal

pub store-requires-clause-four : goal.store-requires-clause-four
store-requires-clause-four c =
    new_long c.args.w c.args.place c.args.slots.now c.args.marks c.load.result c.fits-marks.0 c.requires.within c.load.ensures.lanes c.requires.fits

pub returns-clause-here : goal.returns-clause-here
returns-clause-here c =
    new_here c.args.w c.args.place c.args.slots.now c.args.marks c.load.result c.fits-marks.0 c.requires.within c.load.ensures.lanes c.requires.fits
    c.store.new.values c.store.ensures

pub returns-clause-others : goal.returns-clause-others
returns-clause-others c =
    new_others c.args.w c.args.place c.args.slots.now c.args.marks c.load.result c.fits-marks.0 c.requires.within c.load.ensures.lanes c.requires.fits
    c.store.new.values c.store.ensures

pub returns-clause-nears : goal.returns-clause-nears
returns-clause-nears c =
    nears_counted c.args.w c.args.place c.args.slots.now c.args.marks c.load.result c.fits-marks.0 c.requires.within c.load.ensures.lanes c.requires.fits
    c.store.new.values c.store.ensures c.args.from c.ranges.from.fits c.args.nears c.requires.lanes c.requires.nears

pub returns-clause-lanes : goal.returns-clause-lanes
returns-clause-lanes c =
    nears_long c.args.w c.args.place c.args.slots.now c.args.marks c.load.result c.fits-marks.0 c.requires.within c.load.ensures.lanes c.requires.fits
    c.args.from c.args.nears c.requires.lanes
