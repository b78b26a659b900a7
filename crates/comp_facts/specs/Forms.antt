-- The forms of records and of variants, as code names them.
use Rattle.wit_types.specs.Plain.{RecordForm as Form, AsRecord, AsTuple, VariantForm as Cases, AsVariant, AsEnum, AsOption, AsResult}
use Rattle.comp_facts.specs.declared.forms.RecordForm.{RecordForm}
use Rattle.comp_facts.specs.declared.forms.RecordForm.TheVariants as records
use Rattle.comp_facts.specs.declared.forms.VariantForm.{VariantForm}
use Rattle.comp_facts.specs.declared.forms.VariantForm.TheVariants as variants

abbrev pub record_form : RecordForm → Form
record_form records.Record = AsRecord
record_form records.Tuple = AsTuple

abbrev pub variant_form : VariantForm → Cases
variant_form variants.Variant = AsVariant
variant_form variants.Enum = AsEnum
variant_form variants.Option = AsOption
variant_form variants.Result = AsResult
