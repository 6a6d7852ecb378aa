-- The fixed parts of the lines of a generated file.
use Rattle.std.specs.Prelude.{ℕ, List, codes}
use Rattle.model_generator.specs.declared.phrases.Phrase.{Phrase}
use Rattle.model_generator.specs.declared.phrases.Phrase.TheVariants.{Points, Set, Closed, Plain}
use Rattle.model_generator.specs.declared.phrases.Phrase.TheVariants.{Shape, Product, Close, Guid}
use Rattle.model_generator.specs.declared.phrases.Phrase.TheVariants.{Named, Placed, Done, Zeros}

-- the bytes of a phrase of the file
unfoldable pub text_of : Phrase → List ℕ
text_of Points = codes "=IFCCARTESIANPOINTLIST3D(("
text_of Set = codes "=IFCTRIANGULATEDFACESET("
text_of Closed = codes ",$,.T.,("
text_of Plain = codes "),$);\n"
text_of Shape = codes "=IFCSHAPEREPRESENTATION($,'Body','Tessellation',("
text_of Product = codes "=IFCPRODUCTDEFINITIONSHAPE($,$,("
text_of Close = codes "));\n"
text_of Guid = codes "('"
text_of Named = codes "',$,'"
text_of Placed = codes "',$,$,$,"
text_of Done = codes ",$,$);\n"
text_of Zeros = codes "00000000000000000"
