-- What the items of a plan make that are no modules and no components.
use Rattle.std.specs.Option.{option_map}
use Rattle.comp_types.specs.Views.{item_of}
use Rattle.comp_link.specs.Plans as plans
use Rattle.comp_link.specs.Linking.{Making, link_item}
use Rattle.comp_link.specs.declared.items.PlanItem.{PlanItem}
use Rattle.comp_link.specs.declared.items.PlanItem.TheVariants as items
use Rattle.comp_link.specs.Planned.{item_named, args_named}

abbrev pub other_item : PlanItem → Making → Making
other_item (items.OfModule number args) m = m
other_item (items.OfComponent number first args) m = m
other_item (items.OfCoreItems exports) m = link_item (plans.OfCoreItems exports) m
other_item (items.CoreItemOf sort instance name) m = link_item (plans.CoreItemOf sort instance name) m
other_item (items.OfItems exports) m = link_item (plans.OfItems (args_named exports)) m
other_item (items.ItemOf sort instance name) m = link_item (plans.ItemOf sort instance name) m
other_item (items.NewResource resource destructor) m = link_item (plans.NewResource resource destructor) m
other_item (items.Lifts func options ty) m = link_item (plans.Lifts func options ty.value) m
other_item (items.Lowers func options ty) m = link_item (plans.Lowers func options ty) m
other_item (items.MakesResource resource) m = link_item (plans.MakesResource resource) m
other_item (items.DropsResource resource) m = link_item (plans.DropsResource resource) m
other_item (items.ReadsResource resource) m = link_item (plans.ReadsResource resource) m
other_item (items.Imports name item) m = link_item (plans.Imports name (item_of item)) m
other_item (items.Exports name item stated) m = link_item (plans.Exports name (item_named item) (option_map item_of stated)) m
