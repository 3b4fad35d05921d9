use Rattle.ciff_read.proofs.RisingEntries.{place_of_list}
use Rattle.ciff_read.proofs.rising_lists.RisingLists.place.Goals as goal

pub returns : goal.returns
returns c =
    place_of_list _ _ _ c.self.view_is _ _ c.requires c.index.ensures
